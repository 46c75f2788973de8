pub mod Steps
pub mod Same
pub mod Sets
pub mod Absent
pub mod Relation
pub mod Others
pub mod Unchanged
