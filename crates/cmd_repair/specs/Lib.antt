pub mod Ids
pub mod Words
pub mod IdList
pub mod IdsListed
pub mod Repair
pub mod Rest
