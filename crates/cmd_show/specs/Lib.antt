pub mod FaultyLines
pub mod Before
pub mod Judging
pub mod Written
pub mod Showing
pub mod Nodelists
pub mod Linking
pub mod Fetching
