pub mod Making
-- Made queries are lawful.
mod Growing
pub mod Trees
mod Lawful
