-- A product on top of a sum, all over 1.
use Rattle.std.proofs.Common.{◌≡◌, ℕ, ◌+◌, ◌*◌, ◌-◌, ◌/◌, ◌^◌, ◌<◌, ◌≤◌, List, length, refl, sym, ap, ◌∙◌, subst, arith, lit<, lit≤}
use Rattle.std.specs.Prelude.{ℤ, pos, ◌+ℤ◌, ◌*ℤ◌, unsigned_abs, IsTrue, Bool, Some, None, if◌then◌else◌}
use Rattle.std.proofs.lemmas.Int.{ints}
use Rattle.ring_laws.specs.Stated.{add_product_at, product_at as stated_product, sum_at}
use Rattle.poly_core.specs.Gcd.{gcd}
use Rattle.poly_core.specs.Rho.{degree}
use Rattle.poly_core.specs.Table.{at}
use Rattle.cyclo_core.specs.Ratio.{Ratio, ring_at, product_at, product_size}
use Rattle.cyclo_core.specs.RingAt.{ring_at_laws}
use Rattle.cyclo_core.proofs.CancelLemmas.{gcd-by_one}
use Rattle.cyclo_core.proofs.NumberLemmas.{product_value, sum_value, product_fits_is, sum_fits_is, reduced_over_one}

-- numerators over 1
abbrev whole : List ℤ → Ratio
whole xs = record { numerators = xs; denominator = 1 }

-- what the code's numerators of a product and a sum are
pub record IsAddedTo (N : ℕ) (old xs ys by new : List ℤ) : Type 0 where
  pub full : length by ≡ 16
  pub filled : length new ≡ 16
  pub fits : (j : ℕ) → j < degree N → product_size N (at xs) (at ys) j ≤ 2 ^ 127 - 1
  pub value : (j : ℕ) → j < degree N → at by j ≡ product_at N (at xs) (at ys) j
  pub rest : (j : ℕ) → degree N ≤ j → at by j ≡ pos 0
  pub small : (j : ℕ) → unsigned_abs (at by j) ≤ 2 ^ 62 - 1
  pub room : (j : ℕ) → unsigned_abs (at old j) ≤ 2 ^ 126
  pub past : (j : ℕ) → degree N ≤ j → at old j ≡ pos 0
  pub sum : (j : ℕ) → at new j ≡ at old j +ℤ at by j

once : 1 ≡ 1 / gcd 1 1
once = sym (ap (λ g. 1 / g) (gcd-by_one 1 1 refl))

by_test : {A : Type 0} (b : Bool) (v : A) → IsTrue b → (if b then Some v else None) ≡ Some v
by_test b v h = rw h refl

times_once : (a b : ℤ) → a +ℤ b ≡ a *ℤ pos 1 +ℤ b *ℤ pos 1
times_once a b = omega (arith, ints)

no_more : (a b : ℤ) → a ≡ pos 0 → b ≡ pos 0 → a +ℤ b ≡ pos 0
no_more a b p q = omega (arith, ints, p, q)

room_fits : (a b : ℤ) → unsigned_abs a ≤ 2 ^ 126 → unsigned_abs b ≤ 2 ^ 62 - 1 → unsigned_abs a * 1 + unsigned_abs b * 1 ≤ 2 ^ 127 - 1
room_fits a b p q = omega (arith, p, q)

module _ (N : ℕ) (old xs ys by new : List ℤ) (is : IsAddedTo N old xs ys by new) where
  product_is : whole by ≡ (ring_at N).product (whole xs) (whole ys)
  product_is = product_value N (whole xs) (whole ys) (whole by) by 1 (lit< tt) (lit< tt) (reduced_over_one by is.full) is.value is.rest refl

  product_given : stated_product (ring_at N) (whole xs) (whole ys) ≡ Some (whole by)
  product_given =
      by_test _ _ ((product_fits_is N (whole xs) (whole ys)).1 (record { over = is.fits; under = lit≤ tt }))
      ∙ ap Some (sym product_is)

  sum_is : whole new ≡ (ring_at N).sum (whole old) (whole by)
  sum_is =
      let sum = is.sum in
      let rest = is.rest in
      let past = is.past in
      let scaled : (j : ℕ) → at new j ≡ at old j *ℤ pos (1 / gcd 1 1) +ℤ at by j *ℤ pos (1 / gcd 1 1) =
      λ j. sum j ∙ times_once (at old j) (at by j) ∙ ap (λ k. at old j *ℤ pos k +ℤ at by j *ℤ pos k) once in
      sum_value N (whole old) (whole by) (whole new) new 1 (lit< tt) (lit< tt) is.filled (lit< tt) (reduced_over_one new is.filled)
      (λ j lt. scaled j) (λ j le. sum j ∙ no_more _ _ (past j le) (rest j le)) (ap (λ k. 1 * k) once)

  sum_given : sum_at (ring_at N) (whole old) (whole by) ≡ Some (whole new)
  sum_given =
      let small = is.small in
      let room = is.room in
      by_test _ _ ((sum_fits_is N (whole old) (whole by) 1 1 once once).1 (record { over = λ j lt. room_fits (at old j) (at by j) (room j) (small j); under = lit≤ tt }))
      ∙ ap Some (sym sum_is)

  whole_given : add_product_at (ring_at N) (whole old) (whole xs) (whole ys) ≡ Some (whole new)
  whole_given = rw product_given sum_given

  whole_member : IsTrue ((ring_at N).member (whole new))
  whole_member =
      let laws = ring_at_laws N in
      subst (λ (z : Ratio). IsTrue ((ring_at N).member z)) (sym sum_is) (laws.sum_is (whole old) (whole by))

pub added_given : (N d e f : ℕ) (old xs ys by new : List ℤ) → d ≡ 1 → e ≡ 1 → f ≡ 1 → IsAddedTo N old xs ys by new
    → add_product_at (ring_at N) (record { numerators = old; denominator = d }) (record { numerators = xs; denominator = e }) (record { numerators = ys; denominator = f })
    ≡ Some (record { numerators = new; denominator = d })
added_given N d e f old xs ys by new p q r is =
    let P : ℕ → ℕ → ℕ → Type 0 = λ a b c. add_product_at (ring_at N) (record { numerators = old; denominator = a }) (record { numerators = xs; denominator = b }) (record { numerators = ys; denominator = c })
    ≡ Some (record { numerators = new; denominator = a }) in
    subst (λ a. P a e f) (sym p) (subst (λ b. P 1 b f) (sym q) (subst (λ c. P 1 1 c) (sym r) (whole_given N old xs ys by new is)))

pub added_member : (N d : ℕ) (old xs ys by new : List ℤ) → d ≡ 1 → IsAddedTo N old xs ys by new
    → IsTrue ((ring_at N).member (record { numerators = new; denominator = d }))
added_member N d old xs ys by new p is = rw p (whole_member N old xs ys by new is)
