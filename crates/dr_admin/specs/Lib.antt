pub mod Adding
pub mod Removing
pub mod Targets
pub mod Answering
pub mod Starting
