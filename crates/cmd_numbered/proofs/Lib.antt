pub mod Gettings
pub mod Resendings
pub mod Addings
