pub mod Former
pub mod Rows
