-- What a batch promises.
pub mod Numbered
pub mod Using
pub mod Refusing
pub mod Batches
pub mod Tables
pub mod Account
pub mod ToldFaults
pub mod Cut
