pub mod Codes
pub mod Contexts
pub mod Labelled
pub mod Links
pub mod Outlines
pub mod Settling
pub mod Views
