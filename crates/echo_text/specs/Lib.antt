pub mod Lines
pub mod Tail
pub mod Echo
pub mod Refusal
pub mod Ids
