pub mod Bundle
pub mod Reading
pub mod Tracking
pub mod Fronts
-- The names of lists that have numbers.
pub mod Numbered
-- Lists that a caller has in memory.
pub mod Given
pub mod Gathering
