pub mod Free
pub mod Raised
pub mod Filling
pub mod Following
pub mod Places
