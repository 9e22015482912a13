pub mod Kinds
pub mod Heads
pub mod Steps
pub mod Sending
pub mod Both
pub mod Ran
