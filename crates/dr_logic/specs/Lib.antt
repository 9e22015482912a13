pub mod Tables
pub mod Bytes
pub mod Counts
