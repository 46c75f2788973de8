pub mod CalledPackages
pub mod FirstElements
pub mod KeyLists
pub mod Meanings
pub mod NearestName
