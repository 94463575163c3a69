-- Lemmas on what the source of a place tells.
pub mod SourceLaws
