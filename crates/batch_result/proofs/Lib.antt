-- Lemmas on what logs tell of a source's list, and how queries end over told lists.
pub mod Pages
pub mod Places
pub mod ShutLaws
pub mod TruthLaws
pub mod LaterLaws
pub mod TableLaws
pub mod OwnTables
pub mod RunOverLists
pub mod EndingLaws
pub mod AskedLaws
pub mod AccountLaws
pub mod CutLaws
pub mod FaultLaws
pub mod OutsideLaws
