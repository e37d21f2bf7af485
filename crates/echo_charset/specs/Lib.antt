pub mod Charset
pub mod Encoding
pub mod Losses
pub mod Escaped
pub mod Words
