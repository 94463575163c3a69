-- What a batch over open sources is.
pub mod OpenSources
-- What query lines over the lists of a catalog come to.
pub mod Runs
pub mod Cut
-- How a run of query lines over a catalog ends, and what it writes.
pub mod Taking
pub mod Running
pub mod Texts
pub mod RunEnds
pub mod Faults
