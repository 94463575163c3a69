-- What the place of a list is, and how an address is taken to pieces.
pub mod Places
pub mod Pieces
-- What a catalog is, and what is at fault in a text that is none.
pub mod Catalog
pub mod Judging
pub mod Listed
pub mod Placed
pub mod Taking
