pub mod Reading
pub mod Names
pub mod Folders
pub mod Numbered
pub mod JamAdded
pub mod Resending
pub mod Finding
