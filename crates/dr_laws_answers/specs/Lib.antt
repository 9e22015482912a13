pub mod Listing
pub mod Named
pub mod Holds
pub mod Settings
pub mod Counts
pub mod Example
