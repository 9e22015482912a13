pub mod Difference
pub mod Names
pub mod Recoveries
pub mod Report
pub mod Verdict
