pub mod AtRest
pub mod Growing
pub mod Log
pub mod Moments
pub mod Names
pub mod Opening
pub mod Reading
pub mod Standing
