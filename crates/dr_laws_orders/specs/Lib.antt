pub mod Arrivals
pub mod FlightGoesOn
pub mod OldOrders
pub mod SettledLosses
pub mod OlderNumbers
pub mod Example
