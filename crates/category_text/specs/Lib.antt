pub mod Named
pub mod Reading
pub mod Answers
pub mod Canonical
pub mod Writing
pub mod Spelled
pub mod Again
