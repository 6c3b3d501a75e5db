pub mod Labels
pub mod Report
pub mod Parts
pub mod TreeReport
pub mod Summary
