-- What the outcomes of query lines are.
pub mod Outcomes
pub mod LineOutcomes
