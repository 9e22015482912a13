pub mod Known
pub mod Report
pub mod Found
