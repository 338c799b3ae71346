pub mod Lookups
pub mod Dictionaries
