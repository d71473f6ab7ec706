pub mod Reasons
pub mod Calls
