pub mod Optimal
-- Fagin's algorithm, the one before the threshold algorithm.
pub mod Fagin
-- Answers that are near the best: within which factor, where the threshold algorithm may stop with one, and what shows it.
pub mod Within
pub mod Nearby
pub mod Guarantee
-- The threshold algorithm over lists of which some can't be read in order.
pub mod Restricted
