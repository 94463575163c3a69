-- Lemmas on streams.
pub mod Calling
mod Causes
mod Giving
pub mod Putting
mod Reading
mod Writing
