pub mod Pushed
pub mod Said
pub mod Shown
pub mod Checked
pub mod Pictured
