pub mod Posed
pub mod Capped
