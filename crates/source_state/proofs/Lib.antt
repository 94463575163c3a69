pub mod Lists
pub mod LogLaws
pub mod Caching
pub mod AskLaws
pub mod Sound
mod Noting
mod Stepping
pub mod Drawing
pub mod Told
pub mod LookLaws
pub mod Growing
mod Paging
pub mod Counting
mod LogTold
