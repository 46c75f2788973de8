pub mod Marks
pub mod Changes
pub mod Adding
pub mod Shown
pub mod Missing
