-- The words of the contracts.
pub mod Line
pub mod Taking
pub mod Finding
pub mod Apps
pub mod Arguments
pub mod Commands
pub mod OptionNumbers
pub mod Making
pub mod Running
pub mod Bulking
pub mod Node
pub mod Serving
-- What a call is, and how it ends.
pub mod Codes
pub mod Shelves
pub mod Calls
pub mod Ends
