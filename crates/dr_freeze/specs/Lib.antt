pub mod Between
pub mod Changes
pub mod Passing
pub mod Checks
