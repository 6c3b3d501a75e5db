pub mod MadeLemmas
pub mod MarkLemmas
pub mod NamesLemmas
pub mod PairLemmas
pub mod PutLemmas
pub mod RuleLemmas
pub mod WalkLemmas
mod Tried
