pub mod Values
pub mod Keys
pub mod Ranks
pub mod Tree
pub mod Slots
