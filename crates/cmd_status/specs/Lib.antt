pub mod Status
pub mod Devices
pub mod Lines
pub mod Ended
pub mod Inputs
pub mod Options
pub mod Limits
