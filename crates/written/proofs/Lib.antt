pub mod HexDigits
pub mod Spellings
