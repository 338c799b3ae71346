pub mod Recording
pub mod Keeping
pub mod Returning
pub mod Agreeing
