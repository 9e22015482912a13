pub mod GivesBack
pub mod Imaged
pub mod OneServer
pub mod Unbuilt
