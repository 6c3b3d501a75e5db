pub mod PartLemmas
pub mod SpellingLemmas
pub mod PlainLemmas
pub mod WordLemmas
pub mod WritingLemmas
pub mod Tried
pub mod PlainWordLemmas
