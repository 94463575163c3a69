pub mod FirstKind
pub mod RecordsKept
pub mod Objects
pub mod Tests
pub mod Log
pub mod Refusal
pub mod Kept
