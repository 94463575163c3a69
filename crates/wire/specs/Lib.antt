-- The words of the contracts.
pub mod Asking
pub mod Bodies
pub mod Heads
pub mod Parts
pub mod Refusals
pub mod Replies
pub mod Responses
pub mod Sparing
pub mod Steps
pub mod LinkTold
pub mod Wording
pub mod Writing
-- What targets and query parts say.
pub mod Targets
pub mod Queries
pub mod Routes
