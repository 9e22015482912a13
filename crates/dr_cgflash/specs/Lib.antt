pub mod Holding
pub mod Freeing
