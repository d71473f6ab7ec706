pub mod Better
pub mod Rows
