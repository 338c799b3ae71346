pub mod Laws
pub mod Filled
