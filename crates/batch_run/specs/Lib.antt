-- What happens to slots.
pub mod Slots
-- What workers and fetchers do.
pub mod Working
-- What workers leave that have passes to the slot table.
pub mod Handles
-- What a worker pool of workers and fetchers is, before it runs and after it.
pub mod WorkerPools
-- What comes of a worker pool that has run.
pub mod Finishing
