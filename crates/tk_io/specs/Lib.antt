-- The words of the contracts.
pub mod Calls
pub mod Faults
pub mod InMemory
pub mod LinksInMemory
pub mod Links
pub mod Outside
pub mod Pieces
pub mod Sides
pub mod Whole
