-- What became of the four lists of the tests.
pub mod Four
