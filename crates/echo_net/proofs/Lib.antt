pub mod Changes
pub mod Exports
pub mod Readings
pub mod Runs
pub mod Taken
pub mod Deliveries
pub mod Numbers
pub mod Scripts
pub mod Words
mod Counted
