pub mod Places
mod Keeping
mod Seating
mod PassLaws
mod HandleLaws
