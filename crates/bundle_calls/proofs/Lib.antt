-- Lemmas on the grades of a list that is told.
pub mod Grading
-- Lemmas on replies, and on the lists of a bundle.
pub mod Bundling
mod Ending
mod Replying
mod MadeLaws
mod CompareLaws
mod CompareEnding
