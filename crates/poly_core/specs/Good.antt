-- What a root needs for its ring, by a test that computes.
use Rattle.std.proofs.Common.{◌≡◌, ℕ, zero, suc, ◌+◌, ◌*◌, ◌%◌, ◌-◌, ◌<◌, ◌≤◌, Bool, true, false, ◌&&◌, eqb, leb, List, [], ◌∷◌, length, get_or, replicate, refl, sym, ap, ap₂, ◌∙◌, subst, arith, inl, inr}
use Rattle.std.specs.Prelude.{ℤ, pos, ◌+ℤ◌, ◌*ℤ◌, unsigned_abs, IsTrue}
use Rattle.std.proofs.lemmas.Int.{ints}
use Rattle.std.proofs.lemmas.Bool.{cases_lt}
use Rattle.std.proofs.lemmas.Bool.Decides.{nat_tests}
use Rattle.std.proofs.lemmas.Nat.{mod_below}
use Rattle.ring_laws.specs.Whole.{int_equal}
use Rattle.ring_laws.specs.WholeLaws.{int_equal_is}
use Rattle.poly_core.specs.Combination.{Sequence, nought, comb, pointwise}
use Rattle.poly_core.specs.Companion.{IsBelow, unit, power, power-below}
use Rattle.poly_core.specs.Image.{power-mod}
use Rattle.poly_core.specs.Gcd.{gcd, totient}
use Rattle.poly_core.specs.Table.{at, all_below, all_below_at, both, rows, rows_at, whole_row, P_top, P_below}
use Rattle.poly_core.specs.declared.limits.TheConstants.{DEGREE_LIMIT}

-- a root N with the coefficients of Phi_N below the top, of degree less_one + 1
pub record Root : Type 0 where
  pub order : ℕ
  pub less_one : ℕ
  pub low : List ℤ

-- the coefficients of Phi_N
abbrev pub phi : Root → Sequence
phi r = at (whole_row r.low)

-- z^0, as a row of d + 1 coefficients
abbrev pub first : ℕ → List ℤ
first d = pos 1 ∷ replicate d (pos 0)

-- the coefficient of z^j in P at z^k
abbrev pub combined : ℕ → Sequence → (ℕ → ℤ) → ℤ
combined zero x v = pos 0
combined (suc k) x v = combined k x v +ℤ x k *ℤ v k

-- the rows of z^0 to z^N
abbrev pub table_of : Root → List (List ℤ)
table_of r = rows r.low r.less_one (suc r.order) (first r.less_one)

-- the coefficient at j of row k
abbrev pub entry : List (List ℤ) → ℕ → ℕ → ℤ
entry table k j = at (get_or table k []) j

-- z^N is 1, at place j
abbrev pub rounds : Root → List (List ℤ) → ℕ → Bool
rounds r table j = int_equal (entry table r.order j) (unit zero j)

-- Phi_N vanishes at z^k, at place j
abbrev pub vanishes : Root → List (List ℤ) → ℕ → ℕ → Bool
vanishes r table k j = int_equal (combined (suc (suc r.less_one)) (phi r) (λ i. entry table ((k * i) % r.order) j)) (pos 0)

-- it vanishes at z^k, where k is to be tried
abbrev pub vanishes_if : Bool → Root → List (List ℤ) → ℕ → Bool
vanishes_if false r table k = true
vanishes_if true r table k = all_below (suc r.less_one) (vanishes r table k)

-- it vanishes at z^k, where k has no divisor in common with N
abbrev pub is_root : Root → List (List ℤ) → ℕ → Bool
is_root r table k = vanishes_if (eqb (gcd k r.order) 1) r table k

-- the coefficients of z^k are 1, 0 and -1
abbrev pub is_tiny : Root → List (List ℤ) → ℕ → Bool
is_tiny r table k = all_below (suc r.less_one) (λ j. leb (unsigned_abs (entry table k j)) 1)

-- there are as many coefficients as the degree says
abbrev pub is_full : Root → Bool
is_full r = eqb (length r.low) (suc r.less_one)

-- N isn't 0
abbrev pub is_positive : Root → Bool
is_positive r = eqb (r.order - 1 + 1) r.order

-- the degree is at most the limit
abbrev pub is_small : Root → Bool
is_small r = leb (suc r.less_one) DEGREE_LIMIT

-- the degree is at most N
abbrev pub is_within : Root → Bool
is_within r = leb (suc r.less_one) r.order

-- N - 1 has no divisor in common with N
abbrev pub is_turned : Root → Bool
is_turned r = eqb (gcd (r.order - 1) r.order) 1

-- the degree is Euler's phi of N
abbrev pub is_counted : Root → Bool
is_counted r = eqb (totient r.order) (suc r.less_one)

-- the coefficients of Phi_N are 1, 0 and -1
abbrev pub is_low_tiny : Root → Bool
is_low_tiny r = all_below (suc (suc r.less_one)) (λ j. leb (unsigned_abs (phi r j)) 1)

abbrev pub sizes_pass : Root → Bool
sizes_pass r = is_full r && (is_small r && (is_positive r && (is_within r && (is_turned r && (is_counted r && is_low_tiny r)))))

abbrev pub table_passes : Root → List (List ℤ) → Bool
table_passes r table = all_below (suc r.less_one) (rounds r table) && (all_below r.order (is_root r table) && all_below r.order (is_tiny r table))

-- all tests of a root
abbrev pub passes : Root → Bool
passes r = sizes_pass r && table_passes r (table_of r)

-- what the tests say
pub record IsGood (r : Root) : Type 0 where
  pub positive : 0 < r.order
  pub small : suc r.less_one ≤ DEGREE_LIMIT
  pub within : suc r.less_one ≤ r.order
  pub full : length r.low ≡ suc r.less_one
  pub turned : gcd (r.order - 1) r.order ≡ 1
  pub counted : totient r.order ≡ suc r.less_one
  pub round : power r.less_one (phi r) r.order ≡ power r.less_one (phi r) zero
  pub root : (k : ℕ) → k < r.order → gcd k r.order ≡ 1 → comb (suc (suc r.less_one)) (phi r) (λ i. power r.less_one (phi r) (k * i)) ≡ nought
  pub tiny : (k j : ℕ) → unsigned_abs (power r.less_one (phi r) k j) ≤ 1
  pub low_tiny : (j : ℕ) → unsigned_abs (phi r j) ≤ 1

comb_at : (k : ℕ) (x : Sequence) (v : ℕ → Sequence) (j : ℕ) → comb k x v j ≡ combined k x (λ i. v i j)
comb_at zero x v j = refl
comb_at (suc k) x v j = ap (λ z. z +ℤ x k *ℤ v k j) (comb_at k x v j)

length_first : (d : ℕ) → length (replicate d (pos 0)) ≡ d
length_first zero = refl
length_first (suc d) = ap suc (length_first d)

zeros_at : (d j : ℕ) → at (replicate d (pos 0)) j ≡ pos 0
zeros_at zero j = refl
zeros_at (suc d) zero = refl
zeros_at (suc d) (suc j) = zeros_at d j

pub first_at : (d : ℕ) (j : ℕ) → at (first d) j ≡ unit zero j
first_at d zero = refl
first_at d (suc j) = zeros_at d j

comb_below : (n k : ℕ) (x : Sequence) (v : ℕ → Sequence) → ((i : ℕ) → IsBelow n (v i)) → IsBelow n (comb k x v)
comb_below n zero x v h = record { past = λ j le. refl }
comb_below n (suc k) x v h =
    let rest = comb_below n k x v h in
    let here = h k in
    record { past = λ j le. ap₂ (λ y z. y +ℤ x k *ℤ z) (rest.past j le) (here.past j le) ∙ omega (arith, ints) }

by_test : (a b : ℕ) → IsTrue (eqb a b) → a ≡ b
by_test a b h = grind (arith, nat_tests)

to_test : (a b : ℕ) → a ≡ b → eqb a b ≡ true
to_test a b h = grind (arith, nat_tests)

le_by_test : (a b : ℕ) → IsTrue (leb a b) → a ≤ b
le_by_test a b h = grind (arith, nat_tests)

module _ (r : Root) (table_good : IsTrue (table_passes r (table_of r))) (full : length r.low ≡ suc r.less_one) (positive : 0 < r.order) where
  abbrev d : ℕ
  d = r.less_one

  abbrev n : ℕ
  n = suc r.less_one

  abbrev P : Sequence
  P = phi r

  abbrev table : List (List ℤ)
  table = table_of r

  at_power : (k : ℕ) → k < suc r.order → at (get_or table k []) ≡ power d P k
  at_power k lt = rows_at r.low d full (suc r.order) zero (first d) (ap suc (length_first d)) (pointwise (first_at d)) k lt ∙ ap (power d P) (omega arith)

  below : (m : ℕ) → IsBelow n (power d P m)
  below = power-below d P (P_top r.low d full) (P_below r.low d full)

  abbrev tests : IsTrue (all_below n (rounds r table)) × IsTrue (all_below r.order (is_root r table) && all_below r.order (is_tiny r table))
  tests = both (all_below n (rounds r table)) (all_below r.order (is_root r table) && all_below r.order (is_tiny r table)) table_good

  abbrev more_tests : IsTrue (all_below r.order (is_root r table)) × IsTrue (all_below r.order (is_tiny r table))
  more_tests = both (all_below r.order (is_root r table)) (all_below r.order (is_tiny r table)) tests.1

  round_is : power d P r.order ≡ power d P zero
  round_is =
      pointwise (λ j. elim (cases_lt j n) [
        | inl lt ↦ ap (λ (f : Sequence). f j) (sym (at_power r.order (omega arith))) ∙ (int_equal_is _ _).0 (all_below_at n (rounds r table) tests.0 j lt)
        | inr le ↦ let a = below r.order in let b = below zero in a.past j le ∙ sym (b.past j le)
      ])

  row_is : (m : ℕ) → at (get_or table (m % r.order) []) ≡ power d P m
  row_is m = let lt = mod_below m r.order positive in at_power (m % r.order) (omega arith) ∙ power-mod d P r.order round_is m

  root_is : (k : ℕ) → k < r.order → gcd k r.order ≡ 1 → comb (suc (suc d)) P (λ i. power d P (k * i)) ≡ nought
  root_is k lt unit_k =
      let here = all_below_at r.order (is_root r table) more_tests.0 k lt in
      let all : IsTrue (all_below n (vanishes r table k)) = subst (λ b. IsTrue (vanishes_if b r table k)) (to_test (gcd k r.order) 1 unit_k) here in
      pointwise (λ j. elim (cases_lt j n) [
        | inl below_n ↦
            comb_at (suc n) P (λ i. power d P (k * i)) j ∙ ap (combined (suc n) P) (λ t i. sym (row_is (k * i)) t j)
            ∙ (int_equal_is _ _).0 (all_below_at n (vanishes r table k) all j below_n)
        | inr le ↦ let b = comb_below n (suc n) P (λ i. power d P (k * i)) (λ i. below (k * i)) in b.past j le
      ])

  tiny_is : (k j : ℕ) → unsigned_abs (power d P k j) ≤ 1
  tiny_is k j =
      elim (cases_lt j n) [
        | inl lt ↦
            let low = mod_below k r.order positive in
            let test = all_below_at n (λ i. leb (unsigned_abs (entry table (k % r.order) i)) 1) (all_below_at r.order (is_tiny r table) more_tests.1 (k % r.order) low) j lt in
            subst (λ (f : Sequence). unsigned_abs (f j) ≤ 1) (row_is k) (le_by_test (unsigned_abs (entry table (k % r.order) j)) 1 test)
        | inr le ↦ let b = below k in subst (λ z. unsigned_abs z ≤ 1) (sym (b.past j le)) (omega arith)
      ]

low_tiny_is : (r : Root) → length r.low ≡ suc r.less_one → IsTrue (is_low_tiny r) → (j : ℕ) → unsigned_abs (phi r j) ≤ 1
low_tiny_is r full h j =
    elim (cases_lt j (suc (suc r.less_one))) [
      | inl lt ↦ le_by_test (unsigned_abs (phi r j)) 1 (all_below_at (suc (suc r.less_one)) (λ i. leb (unsigned_abs (phi r i)) 1) h j lt)
      | inr le ↦ let b = P_below r.low r.less_one full in subst (λ z. unsigned_abs z ≤ 1) (sym (b.past j le)) (omega arith)
    ]

pub good : (r : Root) → IsTrue (passes r) → IsGood r
good r h =
    let halves = both (sizes_pass r) (table_passes r (table_of r)) h in
    let s0 = both (is_full r) (is_small r && (is_positive r && (is_within r && (is_turned r && (is_counted r && is_low_tiny r))))) halves.0 in
    let s1 = both (is_small r) (is_positive r && (is_within r && (is_turned r && (is_counted r && is_low_tiny r)))) s0.1 in
    let s2 = both (is_positive r) (is_within r && (is_turned r && (is_counted r && is_low_tiny r))) s1.1 in
    let s3 = both (is_within r) (is_turned r && (is_counted r && is_low_tiny r)) s2.1 in
    let s4 = both (is_turned r) (is_counted r && is_low_tiny r) s3.1 in
    let s5 = both (is_counted r) (is_low_tiny r) s4.1 in
    let full : length r.low ≡ suc r.less_one = by_test (length r.low) (suc r.less_one) s0.0 in
    let whole : r.order - 1 + 1 ≡ r.order = by_test (r.order - 1 + 1) r.order s2.0 in
    let positive : 0 < r.order = omega arith in
    record {
      positive = positive;
      small = le_by_test (suc r.less_one) DEGREE_LIMIT s1.0;
      within = le_by_test (suc r.less_one) r.order s3.0;
      full = full;
      turned = by_test (gcd (r.order - 1) r.order) 1 s4.0;
      counted = by_test (totient r.order) (suc r.less_one) s5.0;
      round = round_is r halves.1 full positive;
      root = root_is r halves.1 full positive;
      tiny = tiny_is r halves.1 full positive;
      low_tiny = low_tiny_is r full s5.1;
    }
