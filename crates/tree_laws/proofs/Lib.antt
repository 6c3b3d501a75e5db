pub mod Coherence
pub mod EntryLemmas
pub mod Equations
pub mod Factor
pub mod Inverse
pub mod Isometry
pub mod Keys
pub mod Pairs
pub mod WeightLemmas
pub mod Whole
mod Worked
