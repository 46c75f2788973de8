pub mod Dot
pub mod Quoted
pub mod DotText
