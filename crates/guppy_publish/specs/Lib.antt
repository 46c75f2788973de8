pub mod Publishing
pub mod Needs
