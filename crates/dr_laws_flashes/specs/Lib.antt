pub mod Windows
pub mod Held
pub mod Example
