pub mod Facts
pub mod Known
pub mod Rule
pub mod Steps
pub mod Seats
