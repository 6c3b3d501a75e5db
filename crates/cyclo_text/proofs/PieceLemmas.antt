-- A piece ends at the first separator.
use Rattle.std.proofs.Common.{◌≡◌, ◌≢◌, ℕ, zero, suc, ◌+◌, ◌-◌, ◌<◌, List, [], ◌∷◌, length, get_or, take, drop, refl, ap, ◌∙◌, add-one, arith, true, false}
use Rattle.std.specs.Prelude.{◌==◌}
use Rattle.std.specs.List.{onto_first}
use Rattle.std.proofs.lemmas.List.{take_rest}
use Rattle.std.proofs.lemmas.Bool.Decides.{nat_tests}
use Rattle.std.proofs.lemmas.List.Splits.{slice_split-cons_yes, slice_split-cons_no}
use Rattle.cyclo_text.specs.NumberWords.{pieces}

test_yes : (at c : ℕ) → c ≡ at → (c == at) ≡ true
test_yes at c e = grind (arith, nat_tests)

test_no : (at c : ℕ) → c ≢ at → (c == at) ≡ false
test_no at c e = grind (arith, nat_tests)

piece_stops : (at : ℕ) (text : List ℕ) (i : ℕ) → ((k : ℕ) → k < i → get_or text k 0 ≢ at) → i < length text → get_or text i 0 ≡ at → pieces at text ≡ take i text ∷ pieces at (drop (suc i) text)
piece_stops at [] i before in_text is = absurd (omega arith)
piece_stops at (c ∷ cs) zero before in_text is = slice_split-cons_yes (λ b. b == at) c cs (test_yes at c is)
piece_stops at (c ∷ cs) (suc i) before in_text is =
    slice_split-cons_no (λ b. b == at) c cs (test_no at c (before 0 (omega arith)))
    ∙ ap (onto_first c) (piece_stops at cs i (λ k below. before (suc k) (omega arith)) (omega arith) is)

-- the piece before the first separator, as the code cuts it
pub piece_ends : (at : ℕ) (text : List ℕ) (i : ℕ) → ((k : ℕ) → k < i → get_or text k 0 ≢ at) → i < length text → get_or text i 0 ≡ at
    → pieces at text ≡ take i text ∷ pieces at (take (length text - (i + 1)) (drop (i + 1) text))
piece_ends at text i before in_text is =
    rw (take_rest text (i + 1), add-one) (piece_stops at text i before in_text is)

pub piece_last : (at : ℕ) (text : List ℕ) → ((k : ℕ) → k < length text → get_or text k 0 ≢ at) → pieces at text ≡ text ∷ []
piece_last at [] none = refl
piece_last at (c ∷ cs) none =
    slice_split-cons_no (λ b. b == at) c cs (test_no at c (none 0 (omega arith)))
    ∙ ap (onto_first c) (piece_last at cs (λ k below. none (suc k) (omega arith)))
