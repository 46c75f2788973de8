pub mod Adding
pub mod FirmLinks
