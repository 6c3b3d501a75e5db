pub mod Fib
mod Distinct
mod Tried
mod Worked
pub mod FirstFactor
pub mod OwnLemmas
pub mod PathFacts
pub mod StartLemmas
pub mod UnitLemmas
