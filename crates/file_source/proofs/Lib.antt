-- Lemmas on the records of a list file.
pub mod FieldLaws
pub mod PlainLaws
pub mod RecordLaws
pub mod TakingLaws
