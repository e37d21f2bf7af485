pub mod Joins
pub mod Parsed
