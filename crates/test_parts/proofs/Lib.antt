-- Lemmas on the passes of a lock.
mod PassLaws
