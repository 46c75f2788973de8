pub mod KnownNames
pub mod PackageNames
