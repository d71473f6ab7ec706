pub mod Bits
pub mod Refusals
