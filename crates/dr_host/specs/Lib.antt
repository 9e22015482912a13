pub mod Writes
pub mod Seen
pub mod Hearing
pub mod Here
