pub mod Nearest
pub mod Table
pub mod Scripts
pub mod Told
pub mod Fault
pub mod Words
pub mod Names
