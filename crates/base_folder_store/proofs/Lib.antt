pub mod Ahead
pub mod Bases
mod Beside
mod Cached
pub mod Causes
pub mod Claimed
pub mod Extents
mod Fits
pub mod Legible
pub mod Looked
pub mod Numbered
mod OneMore
mod Plain
pub mod Runs
pub mod Seen
mod Shorter
pub mod Staged
pub mod Stated
pub mod Stubbed
pub mod Vouchings
pub mod Waits
mod WhereSo
