-- A label is found again by its name, and a name by its label.
use Rattle.std.proofs.Common.{◌≡◌, ℕ, zero, suc, ◌<◌, List, [], ◌∷◌, Bool, length, get_or, refl, ap, ◌∙◌, arith, true, false, ◌||◌, ltb, if◌then◌else◌, Some, None}
use Rattle.std.specs.List.{position_or_len}
use Rattle.std.specs.Str.{bytes_eq}
use Rattle.std.proofs.lemmas.Bool.Decides.{nat_tests}
use Rattle.std.proofs.lemmas.Slice.Eq.{bytes_eq-Decides}
use Rattle.fusion_rules.specs.Names.{is_name, all_names, is_among, has_repeat, AreNames, label_of, name_of}
use Rattle.fusion_rules.proofs.NameLemmas.{eq_comm}

pub same_text : (m : List ℕ) → bytes_eq m m ≡ true
same_text m = (bytes_eq-Decides m m).1 refl

other_name : (names : List (List ℕ)) (n : List ℕ) (k : ℕ) → is_among names n ≡ false → k < length names → bytes_eq n (get_or names k []) ≡ false
other_name [] n k none within = absurd (omega arith)
other_name (m ∷ ms) n zero none within = by_test (bytes_eq n m) none
  where
    by_test : (b : Bool) → (b || is_among ms n) ≡ false → b ≡ false
    by_test true none = cc
    by_test false none = refl
other_name (m ∷ ms) n (suc k) none within = by_test (bytes_eq n m) none (λ h. other_name ms n k h (omega arith))
  where
    by_test : (b : Bool) → (b || is_among ms n) ≡ false → (is_among ms n ≡ false → bytes_eq n (get_or ms k []) ≡ false) → bytes_eq n (get_or ms k []) ≡ false
    by_test true none later = absurd (cc)
    by_test false none later = later none

place_again : (names : List (List ℕ)) (a : ℕ) → has_repeat names ≡ false → a < length names → position_or_len (bytes_eq (name_of names a)) names ≡ a
place_again [] a none within = absurd (omega arith)
place_again (n ∷ ns) zero none within = rw (same_text n) refl
place_again (n ∷ ns) (suc k) none within = by_test (is_among ns n) refl none (λ h. place_again ns k h (omega arith))
  where
    by_test : (b : Bool) → is_among ns n ≡ b → (b || has_repeat ns) ≡ false → (has_repeat ns ≡ false → position_or_len (bytes_eq (name_of ns k)) ns ≡ k) → position_or_len (bytes_eq (name_of ns k)) (n ∷ ns) ≡ suc k
    by_test true e none later = absurd (cc)
    by_test false e none later = let other : bytes_eq (name_of ns k) n ≡ false = eq_comm (name_of ns k) n ∙ other_name ns n k e (omega arith) in rw (other, later none) (omega arith)

-- the name of a label has this label
pub label_again : (names : List (List ℕ)) (a : ℕ) → AreNames names → a < length names → label_of names (name_of names a) ≡ Some a
label_again names a are within =
    let place = place_again names a are.distinct within in
    let in' : ltb (position_or_len (bytes_eq (name_of names a)) names) (length names) ≡ true = grind (arith, nat_tests) in
    rw in' (ap Some place)

pub label_below : (names : List (List ℕ)) (word : List ℕ) (a : ℕ) → label_of names word ≡ Some a → a < length names
label_below names word a e = by_test (ltb (position_or_len (bytes_eq word) names) (length names)) refl e
  where
    by_test : (b : Bool) → ltb (position_or_len (bytes_eq word) names) (length names) ≡ b → (if b then Some (position_or_len (bytes_eq word) names) else None) ≡ Some a → a < length names
    by_test false is e = absurd (cc)
    by_test true is e = let same : position_or_len (bytes_eq word) names ≡ a = cc in grind (arith, nat_tests)

-- what stands among names is a name
pub name_at : (names : List (List ℕ)) (a : ℕ) → all_names names ≡ true → a < length names → is_name (name_of names a) ≡ true
name_at [] a all within = absurd (omega arith)
name_at (n ∷ ns) zero all within = grind arith
name_at (n ∷ ns) (suc k) all within = name_at ns k (grind arith) (omega arith)
