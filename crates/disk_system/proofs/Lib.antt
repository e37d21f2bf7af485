pub mod Inputs
mod Silent
