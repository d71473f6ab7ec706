pub mod Read
pub mod Ahead
