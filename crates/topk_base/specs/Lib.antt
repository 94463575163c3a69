-- What is within the limits.
pub mod Ranges
pub mod Lines
pub mod Numbers
pub mod Names
pub mod Cuts
