pub mod Builds
pub mod Places
pub mod Required
pub mod Follows
pub mod Building
pub mod Parts
pub mod BuildOrder
