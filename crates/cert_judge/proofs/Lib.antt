pub mod Extreme
pub mod Tame
pub mod Unseen
pub mod TellingTables
-- Lemmas on the table against an object.
pub mod Completing
pub mod Countering
pub mod Putting
pub mod Refusing
pub mod Making
pub mod Comparing
pub mod Telling
