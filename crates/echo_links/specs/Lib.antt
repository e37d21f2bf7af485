pub mod Links
pub mod LinkLines
pub mod LinkReading
pub mod Found
