pub mod Count
pub mod Calls
