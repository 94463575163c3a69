pub mod Ready
pub mod Pairs
