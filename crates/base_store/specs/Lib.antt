pub mod Store
pub mod Chains
pub mod Expected
pub mod Index
pub mod Keys
pub mod Sip
