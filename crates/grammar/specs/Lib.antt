pub mod Limits
pub mod Grammar
pub mod Faults
pub mod Trees
pub mod Automaton
pub mod Theorems
