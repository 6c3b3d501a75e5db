pub mod LineLemmas
pub mod ShapeLemmas
mod Worked
