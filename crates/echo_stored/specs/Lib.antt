pub mod OriginAddress
pub mod StoredReading
