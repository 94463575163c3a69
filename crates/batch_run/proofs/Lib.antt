-- Lemmas on feeders that are put into slots and taken back.
pub mod LendLaws
-- Lemmas on what a worker does with the queries that it draws, and on items by their places.
pub mod Zips
pub mod AtPlaces
pub mod WorkLaws
-- Lemmas on who has passes to the slot table, and on what was served at a slot.
pub mod HandleLaws
-- Lemmas on a worker pool: its workers, what the fetchers did of the slots, and passes that are joined.
pub mod WorkerLaws
pub mod SlotLaws
pub mod JoinLaws
-- Lemmas on what a worker pool that has run gives.
pub mod GatherLaws
pub mod UseLaws
pub mod FinishLaws
pub mod RunLaws
pub mod UncalledLaws
