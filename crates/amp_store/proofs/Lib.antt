pub mod AmongLemmas
pub mod CopyLemmas
pub mod EditLemmas
pub mod GatherLemmas
pub mod OrderLemmas
pub mod SearchLemmas
mod Tried
