pub mod Category
pub mod Images
pub mod Mirrors
pub mod Products
