-- What a call of the library leaves.
pub mod Calls
pub mod Telling
