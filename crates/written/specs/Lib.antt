pub mod Hex
pub mod Scripts
