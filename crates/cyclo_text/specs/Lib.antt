pub mod NumberWords
