pub mod Orders
pub mod Example
