-- One run that meets every premise of the laws at once: two sites on two qubits, by a schedule that begins with the second
-- site.
use Rattle.std.proofs.Common.{◌≡◌, ℕ, zero, suc, ◌<◌, false, inl, List, [], ◌∷◌, refl, ◌∙◌, arith}
use Rattle.std.specs.Prelude.{◌==◌, Some, IsSortedByKey}
use Rattle.std.specs.List.Sorted.{IsStrictlySortedBy}
use Rattle.std.proofs.lemmas.Bool.Decides.{nat_tests}
use Rattle.std.proofs.lemmas.List.Sorted.{IsPermutation-refl}
use Rattle.program_text.specs.Letters.{letters}
use Rattle.word_runs.specs.Runs.{Live}
use Rattle.run_laws.specs.Rows.{word_cmp, AreRows, living_words, rows_of_plan}
use Rattle.run_laws.specs.Meaning.{words_of}
use Rattle.run_laws.specs.Schedules.{Range, AreApart, site_letters}
use Rattle.run_laws.specs.Turns.{in_text, IsSchedule}
use Rattle.run_laws.specs.TwoQubits.{Pair, stands, two_acts, two_exact, two_faithful, two_far, two_nought, two_rising, two_shapes, two_told, two_weighing, two_weight}
use Rattle.run_laws.proofs.Counts.{count_no}
use Rattle.run_laws.proofs.ExactEnds.{schedule_words}
use Rattle.run_laws.proofs.RowLemmas.{schedule_rows}
use Rattle.run_laws.proofs.TextRises.{text_rises}
use Rattle.run_laws.proofs.Worked.{sites, start}

abbrev schedule : List ℕ
schedule = 1 ∷ 0 ∷ 0 ∷ 1 ∷ 1 ∷ []

abbrev ranges : List Range
ranges = record { first = 1; last = 2 } ∷ record { first = 3; last = 4 } ∷ []

apart : AreApart 4 ranges (site_letters 0 sites)
apart = (
  (record { above = omega arith; low = omega arith; high = omega arith; below = omega arith }, (record { above = omega arith; low = omega arith; high = omega arith; below = omega arith }, tt)),
  (inl (omega arith), tt),
  (
    (
      record { above = omega arith; low = omega arith; high = omega arith; below = omega arith },
      (record { above = omega arith; low = omega arith; high = omega arith; below = omega arith }, (record { above = omega arith; low = omega arith; high = omega arith; below = omega arith }, tt)),
    ),
    tt,
    tt,
  ),
)

no_such : (a i : ℕ) → a < 2 → (a == suc (suc i)) ≡ false
no_such a i low = grind (arith, nat_tests)

legal : IsSchedule (site_letters 0 sites) schedule
legal zero = refl
legal (suc zero) = refl
legal (suc (suc i)) =
    let test = λ (j : ℕ). j == suc (suc i) in
    count_no test 1 (0 ∷ 0 ∷ 1 ∷ 1 ∷ []) (no_such 1 i (omega arith))
    ∙ (count_no test 0 (0 ∷ 1 ∷ 1 ∷ []) (no_such 0 i (omega arith))
    ∙ (count_no test 0 (1 ∷ 1 ∷ []) (no_such 0 i (omega arith))
    ∙ (count_no test 1 (1 ∷ []) (no_such 1 i (omega arith)) ∙ count_no test 1 [] (no_such 1 i (omega arith)))))

-- what is live at the end
abbrev ends : List (Live Pair)
ends =
    record { word = 0 ∷ 0 ∷ []; state = record { gap = 3; vector = record { first = record { none = 3; one = 0 }; second = record { none = 5; one = 0 } } } }
    ∷ record { word = 1 ∷ 1 ∷ []; state = record { gap = 3; vector = record { first = record { none = 0; one = 2 }; second = record { none = 0; one = 5 } } } }
    ∷ []

sorted : IsSortedByKey (λ (l : Live Pair). l.word) word_cmp ends
sorted zero e low high = refl
sorted (suc k) e low high = absurd (omega arith)

abbrev rows : List (List ℕ × ℕ)
rows = (0 ∷ 0 ∷ [], 15) ∷ (1 ∷ 1 ∷ [], 10) ∷ []

are_rows : AreRows (λ (s : Pair). Some (two_weight s.vector)) (λ x. x == 0) ends rows
are_rows = record { sorted = ends; permutation = IsPermutation-refl ends; order = sorted; all = rows; fit = refl; are = refl }

-- so the laws speak of it
right_words : words_of ends ≡ living_words 2 2 two_acts two_nought (letters 0 (in_text sites)) start
right_words =
    schedule_words two_told two_shapes 2 two_acts (λ v. Unit {0}) two_nought stands two_faithful two_exact two_far ranges sites schedule (record { gap = 2; vector = start }) start ends ends
    apart legal refl tt refl refl refl (IsPermutation-refl ends) sorted

right_rows : rows ≡ rows_of_plan 2 2 two_acts two_weight (λ x. x == 0) (letters 0 (in_text sites)) start
right_rows =
    schedule_rows 2 two_acts (λ v. Unit {0}) two_nought stands (λ (s : Pair). Some (two_weight s.vector)) two_weight (λ x. x == 0) two_weighing two_told two_shapes two_faithful two_far
    ranges sites schedule (record { gap = 2; vector = start }) start ends rows apart legal refl tt refl refl are_rows

-- and in the order of the text they are made in order
made_in_order : IsStrictlySortedBy word_cmp (words_of ends)
made_in_order = text_rises two_told two_rising (in_text sites) (record { gap = 2; vector = start }) ends refl
