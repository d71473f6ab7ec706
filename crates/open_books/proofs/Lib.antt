pub mod Same
pub mod Avoid
pub mod Open
