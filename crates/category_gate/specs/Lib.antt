pub mod Faults
pub mod Gate
pub mod Marks
pub mod Order
