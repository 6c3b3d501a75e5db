pub mod Fronts
pub mod Counts
pub mod Steps
pub mod Rows
mod Worked
