pub mod Accounts
pub mod Keeping
pub mod Frames
pub mod Comparing
