pub mod Days
pub mod Sizes
pub mod Policies
pub mod Demands
