pub mod IntLaws
pub mod Laws
pub mod Ring
pub mod Stated
pub mod Sums
pub mod Whole
pub mod WholeLaws
