pub mod Place
pub mod Reasons
pub mod Example
