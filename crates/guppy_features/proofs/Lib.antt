pub mod LeavingLinks
pub mod Adding
pub mod Adders
pub mod Follows
pub mod Reasons
pub mod ChosenLists
pub mod Resolving
