pub mod DualLemmas
pub mod Factors
pub mod GivenLemmas
pub mod ImageLemmas
pub mod InverseLemmas
pub mod MirrorLemmas
pub mod PairLemmas
pub mod ProductLaws
pub mod ProductRules
pub mod Products
mod Worked
mod WorkedProducts
