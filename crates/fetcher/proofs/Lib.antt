pub mod ReachLaws
pub mod EventLaws
pub mod CauseLaws
mod FeedLaws
pub mod BringLaws
pub mod ToldLaws
mod MoveLaws
mod MeterLaws
mod ChainLaws
pub mod ServeLaws
pub mod ClosedLaws
pub mod PlanLaws
pub mod CalledLaws
mod SlotTableLaws
