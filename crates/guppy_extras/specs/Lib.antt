pub mod Walk
pub mod Nodes
pub mod Searches
pub mod Duplicates
pub mod Sorted
