pub mod KnownIds
pub mod PrintedTexts
pub mod FlaggedPackages
pub mod WrittenObjects
pub mod GrowingLines
