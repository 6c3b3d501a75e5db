pub mod Raises
pub mod States
pub mod Targets
pub mod Rotations
