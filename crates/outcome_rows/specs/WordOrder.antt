-- Live words in the order of lists of labels.
use Rattle.std.specs.Prelude.{ℕ, List, IsPermutation, IsSortedByKey}
use Rattle.std.specs.List.{filter, flat_map}
use Rattle.std.specs.Str.{bytes_eq}
use Rattle.comb_laws.specs.Plans.{words}
use Rattle.word_runs.specs.Runs.{Live}
use Rattle.run_laws.specs.Rows.{word_cmp}

-- the live words that have this word
abbrev pub with_word : {M : Type 0} → List (Live M) → List ℕ → List (Live M)
with_word live word = filter (λ l. bytes_eq l.word word) live

-- Live words in the order of lists of labels: for each word of m labels below the count, those that have it.
abbrev pub in_word_order : {M : Type 0} → (count m : ℕ) → List (Live M) → List (Live M)
in_word_order count m live = flat_map (with_word live) (words count m)

-- The same live words, sorted by their words.
pub record AreSorted {M : Type 0} (live sorted : List (Live M)) : Type 0 where
  pub permutation : IsPermutation live sorted
  pub order : IsSortedByKey (λ l. l.word) word_cmp sorted
