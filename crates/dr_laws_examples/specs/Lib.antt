pub mod Example
pub mod WayHome
pub mod Orders
pub mod ToIdle
