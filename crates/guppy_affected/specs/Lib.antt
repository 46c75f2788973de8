pub mod Folders
pub mod Named
pub mod Affected
pub mod Found
pub mod Changed
pub mod Tested
