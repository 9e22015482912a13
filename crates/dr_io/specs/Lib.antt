pub mod Faults
pub mod Given
pub mod Memory
pub mod Lines
pub mod Pieces
pub mod Reading
