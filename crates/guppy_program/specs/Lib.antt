pub mod Loaded
pub mod Steps
pub mod Publish
pub mod Meant
pub mod Builds
pub mod Answer
pub mod Since
pub mod Run
