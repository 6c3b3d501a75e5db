pub mod Queues
pub mod Legal
pub mod Reading
pub mod Answers
pub mod Spelled
