-- That the records which a reader gives, one after another, are all records of the text.
pub mod AllRecords
pub mod Reading
