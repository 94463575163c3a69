-- Lemmas on sources that stand in slots.
pub mod Turned
-- Lemmas on the outcomes of lines.
pub mod EndedLines
pub mod Readies
pub mod Writable
pub mod Whole
pub mod Running
-- Lemmas on runs that ran out of memory.
pub mod Cuts
pub mod Failing
-- Lemmas on runs of query lines.
mod LineTexts
pub mod RunEnding
