mod LineLemmas
mod StageLemmas
mod ScheduleLemmas
mod Puts
mod Reached
mod JudgeLemmas
pub mod LawLemmas
pub mod RunLemmas
pub mod LinkedLemmas
mod MakeLemmas
mod NewLemmas
mod Worked
