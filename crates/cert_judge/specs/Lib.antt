pub mod Deciding
pub mod JudgingWithin
pub mod Extremes
pub mod Objects
pub mod Question
pub mod Verdicts
pub mod Outside
-- What the table against an object is.
pub mod CounterTable
pub mod Transcripts
pub mod Figures
pub mod Judging
pub mod Text
pub mod Refusing
