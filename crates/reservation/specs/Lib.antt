pub mod Reservations
pub mod Numbers
