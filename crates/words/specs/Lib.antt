pub mod Limits
pub mod Texts
pub mod Words
