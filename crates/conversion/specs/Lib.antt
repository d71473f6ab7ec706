pub mod Given
pub mod Sizes
pub mod Days
pub mod Policies
pub mod Demands
pub mod Example
