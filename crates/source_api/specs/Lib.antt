-- What sources and shelves promise.
pub mod Calls
pub mod Counting
pub mod EachOnce
pub mod Entries
pub mod Places
pub mod Told
