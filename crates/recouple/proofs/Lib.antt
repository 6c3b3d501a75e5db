mod Worked
pub mod AdmissibleLemmas
pub mod CombLemmas
pub mod EndLemmas
pub mod EntryLemmas
pub mod KeyLemmas
pub mod PairLemmas
pub mod RotationLemmas
pub mod SomeLemmas
pub mod SourceLemmas
pub mod StartLemmas
pub mod StateLemmas
pub mod ValueLemmas
