-- How a command over memory ends for the caller of the library.
mod Ending
mod Replying
