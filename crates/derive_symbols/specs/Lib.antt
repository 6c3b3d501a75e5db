pub mod Stop
pub mod Walk
pub mod Weighted
