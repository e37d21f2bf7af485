pub mod Division
pub mod Registers
pub mod EightBytes
pub mod Pieces
pub mod LookingBack
pub mod Hubs
pub mod StatedNumber
pub mod Entries
pub mod LineBytes
pub mod OneMoreLine
pub mod Clean
pub mod ReadBack
pub mod OneNodelist
mod Examples
