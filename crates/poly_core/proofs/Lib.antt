pub mod Filling
pub mod LawLemmas
pub mod PowerLemmas
pub mod QuotientLemmas
pub mod RhoLemmas
mod Tried
