mod Tried
pub mod EachLemmas
pub mod LimitLemmas
pub mod RunLemmas
pub mod SplitLemmas
pub mod StepLemmas
pub mod TurnLemmas
