pub mod AnswerLemmas
pub mod Tried
