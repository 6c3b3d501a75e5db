mod Worked
pub mod ActLemmas
pub mod EntryLemmas
pub mod Gather
pub mod KeptLemmas
pub mod KeyLemmas
pub mod OrderLemmas
pub mod PartLemmas
pub mod PathLemmas
pub mod StartLemmas
pub mod Values
pub mod WeightLemmas
