pub mod EndLemmas
pub mod OutcomeLemmas
pub mod PartLemmas
pub mod ProgramLemmas
pub mod RowLemmas
pub mod WordLemmas
mod Worked
