pub mod DigitLemmas
pub mod LengthLemmas
pub mod PieceLemmas
pub mod ReadBack
pub mod ReadLemmas
pub mod TrimLemmas
