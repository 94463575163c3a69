-- The lists that are open have sources of their own.
pub mod HomeLaws
-- Lemmas on the four lists and their pool.
mod Answering
-- A fact of both items of a list of two.
mod PairLaws
