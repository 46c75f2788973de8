pub mod Device
pub mod Cause
pub mod Fault
pub mod Process
