pub mod Told
pub mod Lines
pub mod Answered
pub mod Walks
pub mod Tables
pub mod ServerNames
pub mod Written
