-- What contracts see of tickets and of passes.
pub mod Draws
-- The rule of the table that they stand on.
pub mod Rule
-- What came of the numbers.
pub mod Places
