pub mod Worlds
pub mod Taken
pub mod Script
pub mod Counts
