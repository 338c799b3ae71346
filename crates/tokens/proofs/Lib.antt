pub mod Stretches
pub mod Nexts
pub mod Fronts
