pub mod Bytes
pub mod Pieces
pub mod Digits
pub mod Address
pub mod Entries
pub mod ShortLines
