-- Lemmas on admission.
pub mod Positions
pub mod Screening
pub mod Seeking
pub mod Admitting
pub mod Becoming
pub mod ReadyLists
pub mod AllSorted
