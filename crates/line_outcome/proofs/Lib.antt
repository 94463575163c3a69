-- Lemmas on the outcomes of lines.
pub mod Refused
pub mod Writable
pub mod Proved
