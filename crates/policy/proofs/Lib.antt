pub mod Allowed
pub mod Gather
pub mod Pass
pub mod Walk
