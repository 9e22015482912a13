pub mod Moments
pub mod Closing
pub mod Silent
pub mod Next
pub mod Regroups
pub mod Example
