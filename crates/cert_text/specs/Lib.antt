-- What algorithms guarantee of their answers.
pub mod Guarantee
pub mod Lows
pub mod Refusal
pub mod Certificate
pub mod Outcome
pub mod Writing
-- How lines spell a certificate, and what reading them finds.
pub mod Reading
pub mod Parts
pub mod Judging
