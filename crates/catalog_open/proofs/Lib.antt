-- Lemmas on opening the sources of a catalog.
pub mod Moving
pub mod Opens
pub mod Unread
pub mod Once
pub mod Taken
pub mod Settling
pub mod Back
-- Lemmas on what query lines want and come to.
pub mod ReadOn
pub mod Marking
pub mod Admits
