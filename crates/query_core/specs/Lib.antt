-- Queries that are ready to run, their machines, and what becomes of them over lists.
pub mod Algorithms
pub mod Methods
pub mod Ready
pub mod OneAnswer
pub mod Claim
pub mod Machines
pub mod Driving
