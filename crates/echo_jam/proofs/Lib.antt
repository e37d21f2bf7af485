pub mod Headers
pub mod Searches
