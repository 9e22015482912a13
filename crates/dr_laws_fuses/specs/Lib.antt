pub mod Fuses
pub mod Laws
