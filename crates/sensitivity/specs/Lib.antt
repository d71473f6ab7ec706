pub mod Raise
pub mod Records
