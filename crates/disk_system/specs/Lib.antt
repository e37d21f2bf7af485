pub mod Input
pub mod Next
pub mod Noted
pub mod Replay
pub mod Unknown
