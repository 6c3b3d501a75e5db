-- Live words at the end of a run, sorted, are those in the order of lists of labels.
use Rattle.std.specs.Prelude.{◌≡◌, Bool, ℕ, List}
use Rattle.program_text.specs.declared.letter.Letter.{Letter}
use Rattle.word_runs.specs.Runs.{Live}
use Rattle.comb_laws.specs.Words.{Acts}
use Rattle.run_laws.specs.Meaning.{AreEnds}
use Rattle.outcome_rows.specs.WordOrder.{AreSorted, in_word_order}

-- Where live words have m labels below the count each, no word twice, they are sorted in one way: for each word in the order of
-- lists of labels, the one that has it, if there is one.
abbrev pub SortedInWordOrder : {M V : Type 0} → ℕ → Acts V → (V → Type 0) → (V → Bool) → (M → V → Type 0) → Type 0
SortedInWordOrder {M} {V} count act Good nought Stands =
    (m : ℕ) (ls : List Letter) (v : V) (live sorted : List (Live M))
    → AreEnds count m act Good nought Stands ls v live → AreSorted live sorted → sorted ≡ in_word_order count m live
