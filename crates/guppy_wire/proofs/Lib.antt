pub mod AllDetails
pub mod NoFeatures
