pub mod Marks
pub mod Allowed
