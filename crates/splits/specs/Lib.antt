pub mod Parts
pub mod Search
pub mod Kbest
pub mod Reach
pub mod ChildCost
