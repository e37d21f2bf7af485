pub mod Zips
pub mod Listers
pub mod Groups
pub mod SupposedTexts
pub mod Leftovers
