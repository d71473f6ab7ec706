pub mod Columns
pub mod Read
