pub mod SetFacts
pub mod Digits
