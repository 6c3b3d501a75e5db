pub mod ListSums
pub mod WordSums
mod Worked
