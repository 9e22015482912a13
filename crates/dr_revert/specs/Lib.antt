pub mod Fates
pub mod Views
