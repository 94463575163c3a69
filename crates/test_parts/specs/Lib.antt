pub mod Journal
pub mod Readers
