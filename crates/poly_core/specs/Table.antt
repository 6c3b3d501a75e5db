-- The powers of x as a table that is computed, and tests on it that say what the laws need.
use Rattle.std.proofs.Common.{◌≡◌, ℕ, zero, suc, ◌+◌, ◌<◌, ◌≤◌, Bool, true, false, ◌&&◌, List, [], ◌∷◌, ◌++◌, length, get_or, refl, sym, ap, ap₂, ◌∙◌, subst, arith, inl, inr}
use Rattle.std.specs.Prelude.{ℤ, pos, ◌+ℤ◌, ◌*ℤ◌, neg_ℤ, IsTrue}
use Rattle.std.proofs.lemmas.Int.{ints}
use Rattle.std.proofs.lemmas.Bool.{cases_lt, cases_eq}
use Rattle.poly_core.specs.Combination.{Sequence, pointwise}
use Rattle.poly_core.specs.Companion.{IsBelow, shift, next, power}

-- the coefficients of a list, zero past its end
abbrev pub at : List ℤ → Sequence
at xs = λ j. get_or xs j (pos 0)

-- each number below n passes
abbrev pub all_below : ℕ → (ℕ → Bool) → Bool
all_below zero p = true
all_below (suc n) p = p n && all_below n p

pub both : (a b : Bool) → IsTrue (a && b) → IsTrue a × IsTrue b
both true b h = (refl, h)
both false b h = cc

pub all_below_at : (n : ℕ) (p : ℕ → Bool) → IsTrue (all_below n p) → (k : ℕ) → k < n → IsTrue (p k)
all_below_at zero p h k lt = absurd (omega arith)
all_below_at (suc n) p h k lt =
    let parts = both (p n) (all_below n p) h in
    elim (cases_eq k n) [
      | inl e ↦ subst (λ i. IsTrue (p i)) (sym e) parts.0
      | inr ne ↦ all_below_at n p parts.1 k (omega arith)
    ]

-- the row after rs, where P is ps and a top coefficient of 1
abbrev pub step_row : ℤ → ℤ → List ℤ → List ℤ → List ℤ
step_row t before [] rs = []
step_row t before (p ∷ ps) [] = []
step_row t before (p ∷ ps) (r ∷ rs) = (before +ℤ neg_ℤ (t *ℤ p)) ∷ step_row t r ps rs

abbrev pub next_row : List ℤ → ℕ → List ℤ → List ℤ
next_row ps d rs = step_row (at rs d) (pos 0) ps rs

abbrev pub row : List ℤ → ℕ → ℕ → List ℤ → List ℤ
row ps d zero rs = rs
row ps d (suc k) rs = row ps d k (next_row ps d rs)

-- the rows from rs on
abbrev pub rows : List ℤ → ℕ → ℕ → List ℤ → List (List ℤ)
rows ps d zero rs = []
rows ps d (suc k) rs = rs ∷ rows ps d k (next_row ps d rs)

-- the coefficients below the top, and 1 on top
abbrev pub whole_row : List ℤ → List ℤ
whole_row ps = ps ++ pos 1 ∷ []

length-step_row : (t b : ℤ) (ps rs : List ℤ) → length ps ≡ length rs → length (step_row t b ps rs) ≡ length rs
length-step_row t b [] [] e = refl
length-step_row t b [] (r ∷ rs) e = absurd (omega arith)
length-step_row t b (p ∷ ps) [] e = refl
length-step_row t b (p ∷ ps) (r ∷ rs) e = ap suc (length-step_row t r ps rs (omega arith))

abbrev from : ℤ → Sequence → Sequence
from b f zero = b
from b f (suc j) = f j

step_row_at : (t b : ℤ) (ps rs : List ℤ) (j : ℕ) → length ps ≡ length rs → j < length rs → at (step_row t b ps rs) j ≡ from b (at rs) j +ℤ neg_ℤ (t *ℤ at ps j)
step_row_at t b [] [] j e lt = absurd (omega arith)
step_row_at t b [] (r ∷ rs) j e lt = absurd (omega arith)
step_row_at t b (p ∷ ps) [] j e lt = absurd (omega arith)
step_row_at t b (p ∷ ps) (r ∷ rs) zero e lt = refl
step_row_at t b (p ∷ ps) (r ∷ rs) (suc j) e lt = step_row_at t r ps rs j (omega arith) (omega arith) ∙ ap (λ z. z +ℤ neg_ℤ (t *ℤ at ps j)) (same_from r rs j)
  where
    same_from : (r : ℤ) (rs : List ℤ) (j : ℕ) → from r (at rs) j ≡ at (r ∷ rs) j
    same_from r rs zero = refl
    same_from r rs (suc j) = refl

pub past_end : (xs : List ℤ) (j : ℕ) → length xs ≤ j → at xs j ≡ pos 0
past_end [] j h = refl
past_end (x ∷ xs) zero h = absurd (omega arith)
past_end (x ∷ xs) (suc j) h = past_end xs j (omega arith)

pub whole_front : (ps : List ℤ) (j : ℕ) → j < length ps → at (whole_row ps) j ≡ at ps j
whole_front [] j h = absurd (omega arith)
whole_front (p ∷ ps) zero h = refl
whole_front (p ∷ ps) (suc j) h = whole_front ps j (omega arith)

whole_top : (ps : List ℤ) → at (whole_row ps) (length ps) ≡ pos 1
whole_top [] = refl
whole_top (p ∷ ps) = whole_top ps

whole_past : (ps : List ℤ) (j : ℕ) → length ps < j → at (whole_row ps) j ≡ pos 0
whole_past [] zero h = absurd (omega arith)
whole_past [] (suc j) h = refl
whole_past (p ∷ ps) zero h = absurd (omega arith)
whole_past (p ∷ ps) (suc j) h = whole_past ps j (omega arith)

from_shift : (f : Sequence) (j : ℕ) → from (pos 0) f j ≡ shift f j
from_shift f zero = refl
from_shift f (suc j) = refl

module _ (ps : List ℤ) (d : ℕ) (full : length ps ≡ suc d) where
  abbrev P : Sequence
  P = at (whole_row ps)

  pub P_top : P (suc d) ≡ pos 1
  P_top = ap P (sym full) ∙ whole_top ps

  pub P_below : IsBelow (suc (suc d)) P
  P_below = record { past = λ j le. whole_past ps j (omega arith) }

  next_row_is : (rs : List ℤ) → length rs ≡ suc d → at (next_row ps d rs) ≡ next d P (at rs)
  next_row_is rs e = pointwise (λ j. elim (cases_lt j (suc d)) [
    | inl lt ↦
        step_row_at (at rs d) (pos 0) ps rs j (omega arith) (omega arith)
        ∙ ap₂ (λ y z. y +ℤ neg_ℤ (at rs d *ℤ z)) (from_shift (at rs) j) (sym (whole_front ps j (omega arith)))
    | inr le ↦ past_end (next_row ps d rs) j (let l = length-step_row (at rs d) (pos 0) ps rs (omega arith) in omega arith) ∙ sym (beyond j le)
  ])
    where
      beyond : (j : ℕ) → suc d ≤ j → next d P (at rs) j ≡ pos 0
      beyond zero le = absurd (omega arith)
      beyond (suc j) le =
          elim (cases_eq d j) [
            | inl e ↦ ap (λ i. at rs i +ℤ neg_ℤ (at rs d *ℤ P (suc i))) (sym e) ∙ ap (λ z. at rs d +ℤ neg_ℤ (at rs d *ℤ z)) P_top ∙ omega (arith, ints)
            | inr ne ↦ ap₂ (λ y z. y +ℤ neg_ℤ (at rs d *ℤ z)) (past_end rs j (omega arith)) (P_below.past (suc j) (omega arith)) ∙ omega (arith, ints)
          ]

  -- a row k steps on, where the first is a power
  pub rows_at : (n m : ℕ) (rs : List ℤ) → length rs ≡ suc d → at rs ≡ power d P m → (k : ℕ) → k < n → at (get_or (rows ps d n rs) k []) ≡ power d P (m + k)
  rows_at zero m rs e h k lt = absurd (omega arith)
  rows_at (suc n) m rs e h zero lt = h ∙ ap (power d P) (omega arith)
  rows_at (suc n) m rs e h (suc k) lt =
      rows_at n (suc m) (next_row ps d rs) (length-step_row (at rs d) (pos 0) ps rs (omega arith) ∙ e) (next_row_is rs e ∙ ap (next d P) h) k (omega arith)
      ∙ ap (power d P) (omega arith)
