-- Lemmas on links that are taken one after another.
pub mod TakingLaws
-- Lemmas on the sources of lists, on counts, on sources that are asked again, and on what a generation leaves of the sources.
pub mod HomeLaws
pub mod SourceLaws
pub mod ReopenLaws
pub mod WorkerLaws
