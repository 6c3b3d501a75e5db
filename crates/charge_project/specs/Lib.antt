pub mod Splits
pub mod Weights
