-- What one connection of a query server promises.
pub mod Entries
pub mod Asking
pub mod Becoming
pub mod Proving
pub mod Connections
-- What a worker remembers of the lines that it answered.
pub mod Answers
