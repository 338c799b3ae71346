pub mod RowSteps
pub mod Trails
pub mod Fronts
