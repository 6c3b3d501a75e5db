pub mod Amplitudes
pub mod Inner
pub mod Laws
pub mod Operators
pub mod Paths
pub mod Plans
pub mod Words
