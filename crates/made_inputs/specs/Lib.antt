-- Tables that are made from a number.
pub mod Made
-- Queries that are made from a number.
pub mod MadeQueries
