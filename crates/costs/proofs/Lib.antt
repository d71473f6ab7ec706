pub mod Sums
pub mod Actions
pub mod ToGo
