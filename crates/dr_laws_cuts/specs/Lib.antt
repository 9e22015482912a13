pub mod Once
pub mod Sound
pub mod Sent
