pub mod Folders
pub mod Touched
pub mod Places
