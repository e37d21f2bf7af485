pub mod Assuming
pub mod Listings
pub mod Parts
pub mod SupposedFiles
pub mod Leaving
