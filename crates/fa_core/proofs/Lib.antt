pub mod Counting
pub mod Path
pub mod Runs
pub mod Steps
pub mod Calls
pub mod Scoring
