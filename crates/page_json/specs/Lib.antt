-- What bodies say.
pub mod Bodies
-- How bodies are written.
pub mod Texts
-- How far a loop over rows has come.
pub mod Going
