pub mod Flashed
pub mod Commits
