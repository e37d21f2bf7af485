mod Moving
pub mod Devices
mod Buffers
pub mod Folders
pub mod Moments
pub mod Tearing
