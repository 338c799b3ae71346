pub mod Applying
pub mod Eliminating
pub mod Solving
pub mod Theorems
