pub mod Across
pub mod ActLemmas
pub mod CancelLemmas
pub mod FarLemmas
pub mod ListWeights
pub mod OneLabel
pub mod PlaceLemmas
pub mod PlaceWeights
pub mod ThreeStrands
pub mod YangBaxter
mod Worked
