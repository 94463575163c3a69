pub mod Readiness
pub mod Pairing
-- Lemmas on queries of tests.
pub mod Readable
