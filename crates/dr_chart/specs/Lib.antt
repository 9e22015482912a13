pub mod Columns
pub mod Panels
pub mod Picture
