-- What sources and shelves in memory do.
pub mod EachOnce
pub mod Editions
pub mod InMemory
pub mod OnShelf
pub mod Shelved
pub mod Stored
