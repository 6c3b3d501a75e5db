pub mod Answers
pub mod Faults
pub mod Items
pub mod Made
pub mod Making
pub mod Names
pub mod Patterns
pub mod Places
