pub mod Quiet
pub mod Late
pub mod LatePlaces
pub mod Place
pub mod OnTable
pub mod Kept
pub mod Machine
