pub mod Text
pub mod Spelling
pub mod Plain
pub mod Writing
