-- Lemmas on readers of one source, and on runs of one query over two sources.
mod Reader
pub mod Readying
