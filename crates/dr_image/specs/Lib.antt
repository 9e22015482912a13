pub mod Shown
pub mod Sound
pub mod Lines
pub mod Reader
pub mod Outcome
pub mod Sources
