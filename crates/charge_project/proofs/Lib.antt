pub mod NodeLemmas
pub mod ProjectLemmas
pub mod SplitLemmas
pub mod WeightLemmas
mod Worked
