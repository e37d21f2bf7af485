pub mod Postings
pub mod Tossings
pub mod Purges
