pub mod Orders
pub mod Hearing
pub mod Ordered
pub mod Exchange
pub mod Reports
