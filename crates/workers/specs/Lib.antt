-- What workers and fetchers have of a slot table.
pub mod Sides
