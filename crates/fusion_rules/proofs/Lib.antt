pub mod CountLemmas
pub mod FaultLemmas
pub mod NameLemmas
pub mod PassLemmas
pub mod UnitLemmas
pub mod Worked
pub mod FoundLemmas
