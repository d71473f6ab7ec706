pub mod Part
pub mod Version
