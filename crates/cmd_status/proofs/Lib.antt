pub mod Lines
pub mod Numerals
pub mod Giving
pub mod Systems
