pub mod AllAreas
pub mod AreaTags
pub mod Checks
pub mod Pictures
pub mod Printing
pub mod Judgements
pub mod FilledParts
