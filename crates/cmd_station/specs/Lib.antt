pub mod Replies
pub mod Scans
