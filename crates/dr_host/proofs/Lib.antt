pub mod Each
pub mod Sound
pub mod Seen
