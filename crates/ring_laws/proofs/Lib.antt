pub mod SumLemmas
pub mod StatedLemmas
