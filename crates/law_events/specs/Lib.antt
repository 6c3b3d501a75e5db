pub mod First
pub mod Judge
pub mod Sides
pub mod Verdicts
