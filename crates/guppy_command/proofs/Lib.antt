pub mod FirstItems
pub mod ShownItems
pub mod Asking
pub mod ReadArguments
pub mod Paths
