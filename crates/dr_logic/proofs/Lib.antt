pub mod Choices
pub mod Lists
pub mod Options
pub mod Results
pub mod Sets
pub mod Truth
pub mod Tables
