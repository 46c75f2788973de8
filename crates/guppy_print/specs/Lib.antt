pub mod Answer
pub mod Shown
pub mod Format
pub mod Flags
pub mod Objects
pub mod BuildLines
pub mod ObjectsOfBuilds
pub mod Printed
