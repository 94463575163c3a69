-- How far the threshold algorithm has come in a row, where that is in its run on a table, and what its machine promises.
pub mod Halting
pub mod Reading
pub mod Shown
pub mod OnTable
pub mod Kept
pub mod Machine
pub mod Certain
