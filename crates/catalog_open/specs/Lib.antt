-- The entries of a catalog, and what opening sources and putting them back do to a shelf.
pub mod Entries
pub mod Openings
pub mod Slots
pub mod Takings
-- Lists that are known by a catalog, and what query lines want of them and come to before they run.
pub mod Views
pub mod Wanted
pub mod Admissions
