pub mod Bases
pub mod Finished
pub mod InOrder
pub mod Names
pub mod Places
pub mod Readings
pub mod Steps
pub mod Whole
