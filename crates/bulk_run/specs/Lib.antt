-- What a made list is as a source.
pub mod Held
-- What many made queries over a made table come to.
pub mod Sums
pub mod Endings
pub mod Reads
pub mod Text
pub mod Bulk
