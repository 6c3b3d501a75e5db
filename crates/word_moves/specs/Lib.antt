pub mod Moves
pub mod Verdicts
pub mod Reading
pub mod Answers
pub mod Pages
