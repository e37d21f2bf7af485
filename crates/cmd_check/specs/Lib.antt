pub mod AreaTags
pub mod Further
pub mod Checking
pub mod CheckingAll
pub mod JudgedAreas
pub mod Supposing
pub mod Picturing
pub mod PicturingParts
