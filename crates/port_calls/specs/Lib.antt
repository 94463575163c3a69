-- How a node ends, and what it writes.
pub mod Ports
pub mod Named
pub mod NodeTexts
pub mod NodeEnds
-- What becomes of the lists of a catalog that is served.
pub mod Opening
-- How a server of queries ends.
pub mod ServeEnds
