pub mod Combs
pub mod Meaning
pub mod Programs
pub mod Rows
pub mod Schedules
pub mod Timely
pub mod Turns
pub mod TwoQubits
