-- A part ends at the first such byte.
use Rattle.std.proofs.Common.{◌≡◌, ◌≢◌, ℕ, zero, suc, ◌+◌, ◌<◌, ◌≤◌, List, [], ◌∷◌, length, get_or, take, drop, refl, ◌-◌, add-one, arith, true, false, Bool, if◌then◌else◌}
use Rattle.std.specs.List.{onto_first}
use Rattle.std.proofs.lemmas.List.{take_rest}
use Rattle.std.proofs.lemmas.Bool.Decides.{nat_tests}
use Rattle.line_text.specs.Text.{is_byte, parts_of, not_empty, words_of}

test_yes : (at c : ℕ) → c ≡ at → is_byte at c ≡ true
test_yes at c e = grind (arith, nat_tests)

test_no : (at c : ℕ) → c ≢ at → is_byte at c ≡ false
test_no at c e = grind (arith, nat_tests)

part_stops : (at : ℕ) (text : List ℕ) (i : ℕ) → ((k : ℕ) → k < i → get_or text k 0 ≢ at) → i < length text → get_or text i 0 ≡ at → parts_of at text ≡ take i text ∷ parts_of at (drop (suc i) text)
part_stops at [] i before in_text is = absurd (omega arith)
part_stops at (c ∷ cs) zero before in_text is = rw (test_yes at c is) refl
part_stops at (c ∷ cs) (suc i) before in_text is =
    rw (test_no at c (before 0 (omega arith)), part_stops at cs i (λ k below. before (suc k) (omega arith)) (omega arith) is) refl

-- the part before the first such byte, as the code cuts it
pub part_ends : (at : ℕ) (text : List ℕ) (i : ℕ) → ((k : ℕ) → k < i → get_or text k 0 ≢ at) → i < length text → get_or text i 0 ≡ at
    → parts_of at text ≡ take i text ∷ parts_of at (take (length text - (i + 1)) (drop (i + 1) text))
part_ends at text i before in_text is =
    rw (take_rest text (i + 1), add-one) (part_stops at text i before in_text is)

pub part_last : (at : ℕ) (text : List ℕ) → ((k : ℕ) → k < length text → get_or text k 0 ≢ at) → 0 < length text → parts_of at text ≡ text ∷ []
part_last at [] none some = absurd (omega arith)
part_last at (c ∷ []) none some = rw (test_no at c (none 0 (omega arith))) refl
part_last at (c ∷ d ∷ cs) none some =
    rw (test_no at c (none 0 (omega arith)), part_last at (d ∷ cs) (λ k below. none (suc k) (omega arith)) (omega arith)) refl

-- no more parts than bytes
parts_short : (at : ℕ) (text : List ℕ) → length (parts_of at text) ≤ length text
parts_short at [] = omega arith
parts_short at (c ∷ cs) = by_test (is_byte at c) (parts_of at cs) (parts_short at cs)
  where
    by_test : (b : Bool) (parts : List (List ℕ)) → length parts ≤ length cs → length (if b then [] ∷ parts else onto_first c parts) ≤ suc (length cs)
    by_test true parts short = omega arith
    by_test false [] short = omega arith
    by_test false (p ∷ ps) short = omega arith

some_short : (parts : List (List ℕ)) → length (not_empty parts) ≤ length parts
some_short [] = omega arith
some_short ([] ∷ ps) = omega (arith, some_short ps)
some_short ((c ∷ cs) ∷ ps) = omega (arith, some_short ps)

pub words_short : (line : List ℕ) → length (words_of line) ≤ length line
words_short line = omega (arith, some_short (parts_of 32 line), parts_short 32 line)
