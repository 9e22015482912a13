pub mod Here
pub mod Waiting
pub mod Landing
pub mod Mirroring
pub mod Syncing
pub mod Writing
