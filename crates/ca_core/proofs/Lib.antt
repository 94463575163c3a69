pub mod Noting
pub mod AtPlaces
pub mod Highest
pub mod Capping
pub mod Pieces
pub mod Asks
pub mod Path
pub mod Steps
pub mod Runs
pub mod Calls
pub mod Renewing
pub mod Courses
pub mod Changing
pub mod Scoring
mod Certain
