pub mod Searches
pub mod Cuts
pub mod Follows
