pub mod Tracks
pub mod Membership
pub mod Numbers
