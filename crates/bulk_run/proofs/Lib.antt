-- Lemmas on made lists as sources.
pub mod HeldLaws
pub mod TableLaws
-- Lemmas on ready queries, and how they end.
mod Readying
mod OneAnswers
mod Summing
mod ReadsLaws
mod Bounds
