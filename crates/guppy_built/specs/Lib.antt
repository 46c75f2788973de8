pub mod Asked
pub mod Refused
pub mod Those
pub mod Rows
pub mod Names
pub mod Why
pub mod Features
