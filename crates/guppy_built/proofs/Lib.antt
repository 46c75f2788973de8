pub mod Those
pub mod Seen
pub mod Refused
