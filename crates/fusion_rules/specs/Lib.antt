pub mod Check
pub mod First
pub mod Fusion
pub mod Held
pub mod Names
