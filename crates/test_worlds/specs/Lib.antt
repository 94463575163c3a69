-- Worlds: what contracts see of them, what a step does, what every world keeps, and what comes of honest steps.
pub mod Worlds
pub mod Steps
pub mod Kept
pub mod Made
pub mod Honest
pub mod Runs
pub mod Fails
