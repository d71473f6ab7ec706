pub mod Best
pub mod Split
pub mod Walk
pub mod Pass
pub mod Step
pub mod Prefix
