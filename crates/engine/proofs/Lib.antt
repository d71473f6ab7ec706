pub mod Start
pub mod States
pub mod Parts
pub mod Joins
pub mod Listing
pub mod Turns
pub mod Ranking
