pub mod Text
pub mod Stated
pub mod RunFault
pub mod Records
pub mod Reading
pub mod Lines
