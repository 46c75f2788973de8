pub mod GivenIds
pub mod Drawings
pub mod EscapedTexts
