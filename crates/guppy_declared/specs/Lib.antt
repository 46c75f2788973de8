pub mod Declares
pub mod Grown
pub mod Parts
pub mod Shown
