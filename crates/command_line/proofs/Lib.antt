-- Lemmas on words and on what they give a command.
mod Finding
pub mod SetRules
pub mod Walking
mod Clapping
mod RuleLaws
mod WordLaws
pub mod OptionLaws
mod LineLaws
mod BareLaws
mod CommandLaws
mod MakingLaws
mod RunningLaws
mod BulkingLaws
mod NodeLaws
mod ServingLaws
-- Lemmas on how calls end.
pub mod Ending
