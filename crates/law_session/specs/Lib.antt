pub mod Kept
pub mod Session
pub mod InOrder
