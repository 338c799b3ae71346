pub mod Samples
pub mod Sessions
