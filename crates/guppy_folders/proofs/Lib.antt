pub use Rattle.guppy_data.proofs.Mapped
pub mod Elements
pub mod LastNames
pub mod Prefixes
pub mod Sets
pub mod SamePaths
pub mod LongestFolders
pub mod Ways
