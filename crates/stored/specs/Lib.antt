pub mod Entry
pub mod Lists
pub mod Children
pub mod Runs
pub mod Costs
