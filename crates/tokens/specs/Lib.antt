pub mod Limits
pub mod Classes
pub mod Tokens
pub mod Next
