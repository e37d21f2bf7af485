pub mod Orders
pub mod Collected
pub mod Owned
pub mod Twins
pub mod Drawings
pub mod AllFaults
pub mod Ties
pub mod Divided
