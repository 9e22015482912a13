pub mod Rows
pub mod Nodes
pub mod Within
pub mod Places
pub mod Held
pub mod Lost
pub mod Broken
