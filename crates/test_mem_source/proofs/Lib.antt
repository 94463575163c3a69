-- Lemmas on how a call ends and on look-ups by place.
pub mod DueLaws
pub mod EditionLaws
pub mod ShelfLaws
