-- Lemmas on messages.
pub mod ChunkLaws
mod FindLaws
pub mod OnlyLaws
mod PartLaws
pub mod RefusalLaws
mod ReplyLaws
pub mod SparingLaws
mod StepLaws
mod WholeLaws
pub mod ToldLaws
mod WritingLaws
pub mod TargetLaws
pub mod QueryLaws
pub mod PathLaws
