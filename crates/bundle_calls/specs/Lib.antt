-- What is kept of a list that is told.
pub mod Grades
-- What the commands over one input text reply.
pub mod Made
pub mod Bundled
pub mod Reply
pub mod Lists
pub mod Judge
pub mod Outcomes
pub mod Compare
pub mod Comparing
