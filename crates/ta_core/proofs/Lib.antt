-- Lemmas on the steps of the threshold algorithm in a row, and on its machine.
pub mod HaltingLaws
pub mod Rows
pub mod Fills
pub mod Asks
pub mod BoardSteps
pub mod NeedSteps
pub mod Steps
mod CallSteps
pub mod Runs
pub mod Sound
pub mod Feeds
pub mod Calls
pub mod Answering
pub mod Unasked
-- The rules as the algorithms that halt by them, and their answers.
pub mod Rules
pub mod Answers
pub mod Certain
