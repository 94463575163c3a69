-- Lemmas on queries that take turns.
pub mod Lists
pub mod Asking
pub mod Events
pub mod Causes
pub mod Serving
pub mod Reading
pub mod TrueLists
pub mod TurnOpening
pub mod Honest
pub mod Ending
mod Turning
-- Lemmas on one query over a pool.
pub mod SeenLaws
pub mod Opening
pub mod AskingLaws
mod Wants
mod Looked
mod Steps
mod Fails
mod Stands
pub mod Stops
pub mod KnowsLaws
mod Ahead
mod Foreseen
