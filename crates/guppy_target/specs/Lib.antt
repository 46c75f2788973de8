pub mod Cfg
pub mod Grammar
pub mod Reading
pub mod Platform
pub mod Answer
pub mod Sections
pub mod Fault
