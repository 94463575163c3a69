pub mod HeldLaws
pub mod Halving
pub mod Joining
pub mod Rising
pub mod BoardLaws
pub mod Placing
pub mod KeptLaws
pub mod MachineLaws
pub mod Depths
pub mod Held
pub mod Makes
pub mod Reserve
pub mod Rows
pub mod BoardPuts
pub mod BoardSteps
pub mod BoardCounts
pub mod Fronts
pub mod Unknown
pub mod Known
pub mod Asks
pub mod Certain
pub mod FirstUnknown
pub mod Comparing
mod AskFrom
mod Begins
mod RoomTest
