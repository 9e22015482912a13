pub mod Settled
pub mod Steps
pub mod Outcomes
