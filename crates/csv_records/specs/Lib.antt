-- The records of a CSV text.
pub mod Records
