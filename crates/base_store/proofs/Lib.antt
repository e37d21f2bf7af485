pub mod Runs
pub mod Causes
pub mod Digests
pub mod Found
pub mod Indexed
pub mod Placed
pub mod Recorded
