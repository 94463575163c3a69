-- What a node promises.
pub mod Asking
pub mod Serving
pub mod Connections
pub mod ReadingBack
-- What a node at a port does with the links of the port.
pub mod ServingLinks
