pub mod Hold
pub mod Rule
pub mod Seats
pub mod Steps
