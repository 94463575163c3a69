mod Found
pub mod Fitting
pub mod Getting
pub mod HeapLaws
pub mod Placing
pub mod Putting
pub mod Within
pub mod SlotChanges
pub mod Holes
