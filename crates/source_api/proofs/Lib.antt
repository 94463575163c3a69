-- Lemmas on told lists, on grades by object, on what is counted, and on counts by place.
pub mod CountLaws
pub mod LedgerLaws
pub mod ToldLaws
