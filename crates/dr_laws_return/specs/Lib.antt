pub mod Sites
pub mod Compared
pub mod Returned
pub mod Drains
pub mod DrainsExample
