pub mod Copied
pub mod Extents
pub mod Extremes
pub mod Fills
pub mod Laws
pub mod Medians
pub mod Summaries
pub mod Walks
