-- Counts that stand still at a greatest number.
use Rattle.std.proofs.Common.{◌≡◌, ℕ, ◌+◌, ◌<◌, ◌≤◌, true, List, [], ◌∷◌, ◌++◌, map, length, get_or, take, ap, sym, ◌∙◌, arith, inl, inr}
use Rattle.std.specs.Prelude.{min, nat_lt}
use Rattle.std.specs.List.{sum_by}
use Rattle.std.proofs.Math.Nat.{min-eq_left, min-eq_right}
use Rattle.std.proofs.lemmas.Bool.Decides.{leb_tells, nat_tests}
use Rattle.std.proofs.lemmas.List.{map-append, take_more}
use Rattle.std.proofs.lemmas.List.Sums.{sum_by-cons, sum_by-append}

capped_more : (a b m : ℕ) → min (min a m + b) m ≡ min (a + b) m
capped_more a b m =
    elim (leb_tells a m) [
      | inl low ↦ ap (λ n. min (n + b) m) (min-eq_left low.1)
      | inr high ↦
          let over : m ≤ a = omega (arith, high.1) in
          let here : m ≤ m + b = omega arith in
          let there : m ≤ a + b = omega arith in
          ap (λ n. min (n + b) m) (min-eq_right over) ∙ (min-eq_right here ∙ sym (min-eq_right there))
    ]

-- one more of a sum
pub sum_more : {A B : Type 0} (n : B → ℕ) (f : A → B) (xs : List A) (i m : ℕ) (x : A) → i < length xs → x ≡ get_or xs i x
    → min (min (sum_by n (map f (take i xs))) m + n (f x)) m ≡ min (sum_by n (map f (take (i + 1) xs))) m
sum_more n f xs i m x low is =
    capped_more (sum_by n (map f (take i xs))) (n (f x)) m
    ∙ ap (λ k. min k m) (sym
    (ap (λ l. sum_by n (map f l)) (take_more xs i x low ∙ ap (λ z. take i xs ++ z ∷ []) (sym is))
    ∙ (ap (sum_by n) (map-append f (take i xs) (x ∷ []))
    ∙ (sum_by-append n (map f (take i xs)) (f x ∷ []) ∙ ap (λ k. sum_by n (map f (take i xs)) + k) (one (f x))))))
  where
    one : (y : _) → sum_by n (y ∷ []) ≡ n y
    one y = sum_by-cons n y [] ∙ zero_more (n y)
      where
        zero_more : (k : ℕ) → k + 0 ≡ k
        zero_more k = omega arith

-- a number that stands still above a limit is above the limit where it is so without end
pub over_limit : (limit n m : ℕ) → limit < m → nat_lt limit (min n m) ≡ nat_lt limit n
over_limit limit n m low =
    elim (leb_tells n m) [
      | inl under ↦ ap (nat_lt limit) (min-eq_left under.1)
      | inr over ↦
          let most : m ≤ n = omega (arith, over.1) in
          ap (nat_lt limit) (min-eq_right most) ∙ (above m low ∙ sym (above n (omega arith)))
    ]
  where
    above : (k : ℕ) → limit < k → nat_lt limit k ≡ true
    above k h = grind (arith, nat_tests)

-- and the smaller of two places where it stands still is what counts
pub capped_twice : (n m g : ℕ) → g ≤ m → min (min n m) g ≡ min n g
capped_twice n m g low =
    elim (leb_tells n m) [
      | inl under ↦ ap (λ k. min k g) (min-eq_left under.1)
      | inr over ↦
          let most : m ≤ n = omega (arith, over.1) in
          let far : g ≤ n = omega arith in
          ap (λ k. min k g) (min-eq_right most) ∙ (min-eq_right low ∙ sym (min-eq_right far))
    ]
