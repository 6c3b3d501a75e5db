pub mod CancelLemmas
pub mod ExponentLemmas
pub mod GivenLemmas
pub mod ImageLemmas
pub mod NumberLemmas
pub mod SmallLemmas
pub mod SumLemmas
pub mod WholeLemmas
mod Tried
