pub mod Moves
pub mod Records
pub mod Same
pub mod Options
