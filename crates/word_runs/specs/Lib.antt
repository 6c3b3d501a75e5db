pub mod Lives
pub mod Parts
pub mod Runs
pub mod Told
