pub mod PartLaws
pub mod TrackLaws
pub mod ReadLaws
pub mod FrontLaws
pub mod Viable
pub mod Complete
pub mod Outcome
pub mod FrontLines
-- Lemmas on sections.
pub mod Sections
-- Lemmas on lists in memory, as they are gathered.
pub mod GatherSteps
pub mod GivenLines
pub mod GatherLaws
