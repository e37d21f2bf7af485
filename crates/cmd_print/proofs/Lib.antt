pub mod Padding
pub mod Absences
