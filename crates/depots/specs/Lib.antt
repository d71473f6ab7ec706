pub mod Former
pub mod Choice
