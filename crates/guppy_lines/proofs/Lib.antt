pub mod Cuts
pub mod InputLines
pub mod RecordLines
