pub mod Entries
pub mod EntryOpening
pub mod InFile
pub mod Reading
pub mod InFolder
pub mod Opening
