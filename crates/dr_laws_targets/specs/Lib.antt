pub mod Committeds
pub mod Counted
pub mod Example
