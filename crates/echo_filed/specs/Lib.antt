pub mod Sets
pub mod Written
pub mod Filed
pub mod Stubs
pub mod Stored
pub mod Sending
pub mod Fields
