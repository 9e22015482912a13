pub mod Views
pub mod Heads
pub mod Keeping
pub mod Standing
pub mod HostWrites
