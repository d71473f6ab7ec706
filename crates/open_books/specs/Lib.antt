pub mod Open
pub mod Former
pub mod Same
pub mod Avoid
