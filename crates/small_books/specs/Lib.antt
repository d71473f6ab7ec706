pub mod Count
pub mod Same
pub mod Calls
pub mod Example
