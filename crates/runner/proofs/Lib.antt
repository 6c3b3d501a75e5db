pub mod MeanLemmas
pub mod OutcomeLemmas
pub mod RunLemmas
pub mod SomeLemmas
pub mod StepLemmas
pub mod TurnLemmas
mod Worked
