pub mod Entries
pub mod Laws
pub mod Operators
pub mod Recoupling
pub mod Surroundings
pub mod Trees
pub mod Weights
