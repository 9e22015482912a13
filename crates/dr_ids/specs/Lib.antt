pub mod BigEndian
pub mod Spelling
pub mod Links
pub mod Paths
pub mod Sizes
