-- Queries that take turns: what contracts see of them, what a turn does, what each query keeps, and how it ends.
pub mod Histories
pub mod Inquiries
pub mod Causes
pub mod Turns
pub mod Kept
pub mod Made
pub mod Honest
pub mod Endings
-- One query over the pool: what its pass knows, what it may have asked of each source, how it ends, and what it keeps on the way.
pub mod Seen
pub mod Advancing
pub mod Asking
pub mod Failing
pub mod Ran
pub mod Looking
pub mod Prefetching
pub mod Serving
