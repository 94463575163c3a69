-- Lemmas on the steps of the table.
pub mod Drawing
-- Lemmas on what stands at a place.
pub mod PlaceLaws
