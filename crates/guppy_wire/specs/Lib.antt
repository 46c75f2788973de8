pub mod Parts
pub mod Link
pub mod Package
pub mod Wire
