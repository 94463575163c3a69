-- Lemmas on machines and their runs.
pub mod ListCount
pub mod Lengths
pub mod TrueBounds
pub mod GivenBounds
pub mod Facts
pub mod ThresholdFacts
pub mod NoRandomFacts
pub mod CombinedFacts
pub mod FaginFacts
pub mod StoppedFacts
pub mod RestrictedFacts
pub mod AllFacts
pub mod RunLength
pub mod Feeding
pub mod Answering
mod Halting
pub mod Endings
mod Made
mod Foreseen
pub mod ClaimLaws
