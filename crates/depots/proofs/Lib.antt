pub mod Same
pub mod Choice
