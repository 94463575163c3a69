-- What is taken of a port whose links are put into a queue.
pub mod Accepting
-- Which sources the open lists of a catalog have, and how many objects a pool is to have of each.
pub mod Homes
-- What asking sources for their sizes again makes of lists.
pub mod Reopening
-- How long a generation lasts.
pub mod Lifetimes
-- What a server leaves of the sources, and how it ends.
pub mod Serving
-- The lists that a server answers over.
pub use Rattle.server_conn.specs.Entries
pub use Rattle.server_conn.specs.declared.opened.OpenedEntry
