mod ChainLemmas
pub mod ContextLemmas
mod JoinLinks
mod RaiseLinks
mod ReadLinks
pub mod ReaderLemmas
pub mod RotationLemmas
pub mod SettleLemmas
mod SettleLinks
pub mod TestLemmas
mod TurnLinks
mod TurnLinksLeft
mod Worked
