pub mod AllLabels
pub mod Category
pub mod Derived
pub mod Draft
pub mod Evaluated
pub mod Index
pub mod Laws
pub mod Symbols
