pub mod Moments
pub mod Windows
pub mod InSync
pub mod Secondaries
pub mod Frozen
pub mod Example
