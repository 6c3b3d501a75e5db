-- The steps of the table of powers, and the coefficients of a polynomial.
use Rattle.std.proofs.Common.{◌≡◌, ℕ, zero, suc, ◌+◌, ◌-◌, ◌<◌, ◌≤◌, List, length, refl, sym, ap, ap₂, ◌∙◌, subst, arith, inl, inr}
use Rattle.std.specs.Prelude.{ℤ, pos, ◌+ℤ◌, ◌*ℤ◌, neg_ℤ, unsigned_abs}
use Rattle.std.proofs.lemmas.Bool.{cases_lt}
use Rattle.poly_core.specs.Combination.{Sequence, pointwise}
use Rattle.poly_core.specs.Companion.{unit, shift, next, power, power-below}
use Rattle.poly_core.specs.Good.{phi, first, first_at}
use Rattle.poly_core.specs.Roots.{root_at, IsGood-root_at}
use Rattle.poly_core.specs.Rho.{degree, rho}
use Rattle.poly_core.specs.Table.{at, whole_front, P_top, P_below}

-- of the coefficients below the top
pub low_length : (n : ℕ) → length (root_at n).low ≡ degree n
unfolding degree
low_length n = let g = IsGood-root_at n in g.full

pub low_at : (n j : ℕ) → j < degree n → at (root_at n).low j ≡ phi (root_at n) j
low_at n j lt = sym (whole_front (root_at n).low j (omega (arith, low_length n)))

pub low_tiny : (n j : ℕ) → j < degree n → unsigned_abs (at (root_at n).low j) ≤ 1
low_tiny n j lt = let g = IsGood-root_at n in subst (λ z. unsigned_abs z ≤ 1) (sym (low_at n j lt)) (g.low_tiny j)

pub rho_past : (n k j : ℕ) → degree n ≤ j → rho n k j ≡ pos 0
unfolding rho degree
rho_past n k j le =
    let g = IsGood-root_at n in
    let r = root_at n in
    let b = power-below r.less_one (phi r) (P_top r.low r.less_one g.full) (P_below r.low r.less_one g.full) k in
    b.past j le

pub rho_first : (n : ℕ) → rho n 0 ≡ unit zero
unfolding rho
rho_first n = refl

next_is : (n k : ℕ) (f : Sequence) → f ≡ rho n k → (j : ℕ) → shift f j +ℤ neg_ℤ (f (degree n - 1) *ℤ phi (root_at n) j) ≡ rho n (k + 1) j
unfolding rho degree
next_is n k f is j =
    let r = root_at n in
    let d : ℕ = r.less_one in
    let place : suc d - 1 ≡ d = omega arith in
    let more : suc k ≡ k + 1 = omega arith in
    ap (λ i. shift f j +ℤ neg_ℤ (f i *ℤ phi (root_at n) j)) place
    ∙ ap (λ (g : Sequence). next d (phi r) g j) is
    ∙ ap (λ m. power d (phi r) m j) more

-- the power after z^k, where it is computed place by place
pub rho_more : (n k : ℕ) (row after : List ℤ) → at row ≡ rho n k
    → ((j : ℕ) → j < degree n → at after j ≡ shift (at row) j +ℤ neg_ℤ (at row (degree n - 1) *ℤ at (root_at n).low j))
    → ((j : ℕ) → degree n ≤ j → at after j ≡ pos 0)
    → at after ≡ rho n (k + 1)
rho_more n k row after is low high =
    pointwise (λ j. elim (cases_lt j (degree n)) [
      | inl lt ↦ low j lt ∙ ap (λ z. shift (at row) j +ℤ neg_ℤ (at row (degree n - 1) *ℤ z)) (low_at n j lt) ∙ next_is n k (at row) is j
      | inr le ↦ high j le ∙ sym (rho_past n (k + 1) j le)
    ])

pub first_row : (n : ℕ) → at (first 15) ≡ rho n 0
unfolding rho
first_row n = pointwise (first_at 15)

-- the same, for coefficients that are those of the table
pub rho_after : (n k : ℕ) (row after low : List ℤ) → low ≡ (root_at n).low → at row ≡ rho n k
    → ((j : ℕ) → j < length low → at after j ≡ shift (at row) j +ℤ neg_ℤ (at row (length low - 1) *ℤ at low j))
    → ((j : ℕ) → length low ≤ j → at after j ≡ pos 0)
    → at after ≡ rho n (k + 1)
rho_after n k row after low e is value rest =
    let len : length low ≡ degree n = ap length e ∙ low_length n in
    let top : length low - 1 ≡ degree n - 1 = omega arith in
    rho_more n k row after is
    (λ j lt. value j (omega arith) ∙ ap₂ (λ (i : ℕ) (z : ℤ). shift (at row) j +ℤ neg_ℤ (at row i *ℤ z)) top (ap (λ l. at l j) e))
    (λ j le. rest j (omega arith))
