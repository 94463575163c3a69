pub mod Boards
pub mod Calls
pub mod Path
pub mod Runs
pub mod Steps
