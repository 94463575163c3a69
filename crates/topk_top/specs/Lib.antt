-- How a top call ends, and that what it writes is proved.
pub mod Claim
pub mod Ends
-- What is read of a node's answers.
pub mod ReadBack
-- What the laws of runs of query lines say.
pub mod ToldTables
pub mod Failures
pub mod Answers
pub mod Giving
-- What holds of all calls of the program.
pub mod Laws
pub mod Limits
pub mod RunLaws
