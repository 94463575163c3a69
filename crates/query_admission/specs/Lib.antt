pub mod View
pub mod Causes
pub mod Admission
pub mod Screening
pub mod Becomes
-- A query that is ready to run.
pub use Rattle.query_core.specs.declared.ready.Ready
