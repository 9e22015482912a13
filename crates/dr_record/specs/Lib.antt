pub mod Taken
pub mod Slots
