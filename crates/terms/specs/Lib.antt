pub mod Decisions
pub mod Limits
pub mod Sets
pub mod Terms
pub mod Sums
pub mod NormalForms
pub mod Nodes
