pub mod BackLemmas
pub mod BraidLemmas
pub mod MapLemmas
pub mod StateLemmas
pub mod SymbolLemmas
mod Worked
