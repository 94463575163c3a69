pub mod Growth
pub mod Totals
mod Carrying
mod Turning
mod Sharing
mod Seating
