pub mod Links
pub mod Table
pub mod Rules
pub mod Volumes
pub mod Kept
