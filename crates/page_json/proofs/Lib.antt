-- The JSON values whose texts the bodies are.
pub mod Written
-- The texts of these values.
pub mod WrittenTexts
-- What is read of these values.
pub mod ReadBack
-- Loops over the values of a page.
pub mod Loops
-- A text to which rows are added.
pub mod Grown
-- Texts of bodies read back.
pub mod TextsBack
-- How long texts of bodies are.
pub mod Lengths
