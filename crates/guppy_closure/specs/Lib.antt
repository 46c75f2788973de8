pub mod Clauses
pub mod Derived
pub mod Places
pub mod Counts
pub mod Closing
pub mod Needs
pub mod Named
pub mod Relations
