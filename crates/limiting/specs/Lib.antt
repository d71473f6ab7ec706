pub mod Line
pub mod Enough
