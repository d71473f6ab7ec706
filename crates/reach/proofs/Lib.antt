pub mod Spreading
pub mod Bound
pub mod Pass
