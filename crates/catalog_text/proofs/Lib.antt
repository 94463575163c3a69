-- Lemmas on the pieces of an address.
pub mod AddressLaws
-- Lemmas on the fields of a record, on what records are read as, on names and their places, on records taken in one after another, on records at fault, and on
-- one text's one catalog.
pub mod Exclusion
pub mod FieldLaws
pub mod NameLaws
pub mod OneCatalog
pub mod PlaceLaws
pub mod SourceLaws
pub mod TakingLaws
