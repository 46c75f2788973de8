pub mod Counting
pub mod Host
pub mod HostClauses
pub mod Kept
