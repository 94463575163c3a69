pub mod Lists
pub mod Course
pub mod OnTable
pub mod Kept
pub mod Machine
