pub mod TurnLemmas
pub mod QueueLemmas
pub mod SiteLemmas
pub mod BehindLemmas
pub mod LegalLemmas
pub mod SpelledLemmas
pub mod Worked
