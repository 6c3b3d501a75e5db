-- The laws of the powers, from the table's tests.
use Rattle.std.proofs.Common.{◌≡◌, ℕ, zero, suc, ◌+◌, ◌-◌, ◌*◌, ◌%◌, ◌<◌, refl, sym, ap, ◌∙◌, arith}
use Rattle.std.specs.Prelude.{pos, IsTrue}
use Rattle.poly_core.specs.Combination.{Sequence, comb, comb-family}
use Rattle.poly_core.specs.Companion.{next, power}
use Rattle.poly_core.specs.Gcd.{gcd, totient}
use Rattle.poly_core.specs.Good.{Root, phi}
use Rattle.poly_core.specs.Image.{image-power, power-mod}
use Rattle.poly_core.specs.Laws.{StepsRound, VanishesAtUnits, PutsPowers}
use Rattle.poly_core.specs.Rho.{is_accepted, polynomial, degree, order, rho}
use Rattle.poly_core.specs.Roots.{root_at, IsGood-root_at}
use Rattle.poly_core.specs.Table.{P_top, P_below}
use Rattle.poly_core.proofs.RhoLemmas.{totient_is, order_is}

module _ (n : ℕ) (accepted : IsTrue (is_accepted n)) where
  r_less : totient n ≡ suc (Root.less_one (root_at n))
  unfolding degree
  r_less = totient_is n accepted

  r_order : Root.order (root_at n) ≡ n
  unfolding order
  r_order = order_is n accepted

  pub steps_round : StepsRound n
  unfolding rho polynomial
  steps_round =
      let r = root_at n in
      let g = IsGood-root_at n in
      let d : ℕ = r.less_one in
      let P = phi r in
      let place : totient n - 1 ≡ d = omega (arith, r_less) in
      let positive = g.positive in
      let whole : suc (n - 1) ≡ n = omega (arith, r_order, positive) in
      let round : power d P n ≡ power d P zero = ap (power d P) (sym r_order) ∙ g.round in
      record {
        first = refl;
        step = λ k lt. let more : k + 1 ≡ suc k = omega arith in ap (power d P) more ∙ ap (λ (e : ℕ). next e P (power d P k)) (sym place);
        last = sym (ap (λ (e : ℕ). next e P (power d P (n - 1))) place ∙ ap (power d P) whole ∙ round);
      }

  turned : (i k : ℕ) → rho n ((i * k) % n) ≡ power (Root.less_one (root_at n)) (phi (root_at n)) (k * i)
  unfolding rho
  turned i k =
      let r = root_at n in
      let g = IsGood-root_at n in
      let d : ℕ = r.less_one in
      let P = phi r in
      ap (λ (m : ℕ). power d P ((i * k) % m)) (sym r_order) ∙ power-mod d P r.order g.round (i * k) ∙ ap (power d P) (omega arith)

  vanishes : (k : ℕ) → k < n → gcd k n ≡ 1 → (j : ℕ) → comb (suc (suc (Root.less_one (root_at n)))) (phi (root_at n)) (λ i. power (Root.less_one (root_at n)) (phi (root_at n)) (k * i)) j ≡ pos 0
  vanishes k lt unit_k j =
      let g = IsGood-root_at n in
      ap (λ (f : Sequence). f j) (g.root k (omega (arith, r_order)) (ap (gcd k) r_order ∙ unit_k))

  pub vanishes_at_units : VanishesAtUnits n
  unfolding polynomial
  vanishes_at_units k lt unit_k j =
      let count : totient n + 1 ≡ suc (suc (Root.less_one (root_at n))) = omega (arith, r_less) in
      ap (λ (m : ℕ). comb m (phi (root_at n)) (λ i. rho n ((i * k) % n)) j) count
      ∙ ap (λ (f : Sequence). f j) (comb-family (suc (suc (Root.less_one (root_at n)))) (phi (root_at n)) _ _ (λ i. turned i k))
      ∙ vanishes k lt unit_k j

  pub puts_powers : PutsPowers n
  unfolding rho
  puts_powers k lt unit_k m below j =
      let r = root_at n in
      let g = IsGood-root_at n in
      let d : ℕ = r.less_one in
      let P = phi r in
      let root = g.root k (omega (arith, r_order)) (ap (gcd k) r_order ∙ unit_k) in
      ap (λ (c : ℕ). comb c (power d P m) (λ i. power d P ((i * k) % n)) j) r_less
      ∙ ap (λ (f : Sequence). f j) (comb-family (suc d) (power d P m) _ _ (λ i. turned i k) ∙ image-power d P (P_top r.low d g.full) (P_below r.low d g.full) k root m ∙ sym (turned m k))
