-- Lemmas on calls.
mod Settings
mod Ending
-- Lemmas on what is read of a node's answers.
mod ReadLaws
-- Lemmas on the outcomes of lines, by what their sources told and counted.
pub mod Alike
pub mod OpenedRuns
pub mod ToldLists
pub mod Becoming
pub mod Failures
pub mod FewLines
pub mod Given
pub mod Unread
pub mod ReadGiven
pub mod InOrder
pub mod Good
pub mod Right
pub mod OneOver
-- Lemmas on what calls write.
mod Proving
mod Fixing
mod Certifying
mod AnswersFixed
mod LinesFixed
mod Counters
mod OneCertificate
mod ToldText
mod OneReading
mod OneBecoming
mod OneText
mod ToldRuns
