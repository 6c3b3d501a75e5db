pub mod DeriveLemmas
pub mod FillLemmas
pub mod ValueLemmas
pub mod WalkLemmas
pub mod Tried
