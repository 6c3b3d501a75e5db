pub mod Answers
pub mod Order
pub mod Place
pub mod Shapes
pub mod Table
pub mod Walk
