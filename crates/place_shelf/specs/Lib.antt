-- What the source of a place is, and what a shelf of places is.
pub mod Sources
pub mod Asking
pub mod Shelved

-- What contracts cite.
