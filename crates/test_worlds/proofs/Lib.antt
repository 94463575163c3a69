-- Lemmas on worlds.
mod Reading
pub mod Stepping
pub mod Honest
pub mod Ending
pub mod Making
mod Turning
mod FailsBy
