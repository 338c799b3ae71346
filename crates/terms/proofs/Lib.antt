pub mod SetFacts
pub mod Sums
pub mod NormalForms
