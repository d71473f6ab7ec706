pub mod Calls
pub mod Order
pub mod Monday
