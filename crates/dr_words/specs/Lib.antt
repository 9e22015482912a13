pub mod Words
pub mod Line
pub mod Sweep
pub mod SweepLine
pub mod Compare
