pub mod Moves
pub mod Weights
