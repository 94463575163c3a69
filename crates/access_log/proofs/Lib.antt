pub mod AheadKept
pub mod EndsKept
pub mod FirstKind
pub mod GreatestAhead
pub mod ObjectsKept
pub mod RecordKept
pub mod Pushing
pub mod Readers
