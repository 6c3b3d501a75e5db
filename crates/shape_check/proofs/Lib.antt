pub mod AnswerLemmas
pub mod PlaceLemmas
pub mod SideLemmas
pub mod TableLemmas
pub mod WalkLemmas
