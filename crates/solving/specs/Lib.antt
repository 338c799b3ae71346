pub mod Substitutions
pub mod Equations
pub mod SolvedForms
pub mod Theorems
