-- Lemmas on replies, on requests and their links, and on what is counted.
pub mod AskLaws
pub mod BodyLaws
pub mod CountedLaws
pub mod GivingLaws
pub mod LinkLaws
pub mod OnlyLaws
pub mod SaidLaws
pub mod TalkLaws
