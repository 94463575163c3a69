-- Lemmas on how a node ends.
pub mod NodeEnding
-- Lemmas on the lists of a catalog that is served, and on how serving ends.
pub mod ListLaws
pub mod Ending
