pub mod MemoLemmas
pub mod ToldLemmas
