-- Braids keep the weight of vectors, and charges share it.
use Rattle.std.proofs.Common.{◌≡◌, ℕ, ◌+◌, ◌-◌, ◌<◌, List, length, ap, sym, ◌∙◌, arith, slice_index}
use Rattle.std.specs.Prelude.{if◌then◌else◌}
use Rattle.ring_laws.specs.Ring.{Held, RingLaws}
use Rattle.ring_laws.specs.Sums.{total, sum_over}
use Rattle.ring_laws.proofs.SumLemmas as S
use Rattle.symbol_table.specs.AllLabels.{IsProper, HasEquations, IsWeighted}
use Rattle.symbol_table.specs.Symbols.{Symbols}
use Rattle.comb_laws.specs.Operators.{Kernel, acted, braid_kernel, braided, charge_kernel, exchange_by, path_weight, projected, swapped, term_at, weight}
use Rattle.comb_laws.specs.Paths.{Path, Vector, is_path, paths}
use Rattle.comb_laws.specs.declared.operator.Operator.TheVariants.{Exchange, Project}
use Rattle.program_text.specs.declared.plan.Sign.{Sign}
use Rattle.program_text.specs.declared.plan.Sign.TheVariants.{Plus, Minus}
use Rattle.tree_laws.specs.Operators as O
use Rattle.tree_laws.specs.Weights as T
use Rattle.tree_laws.proofs.Isometry as I
use Rattle.path_laws.specs.Weights.{BraidsKeepWeight, ChargesShareWeight}
use Rattle.path_laws.proofs.ActLemmas as A
use Rattle.path_laws.proofs.ActLemmas.{after_is, length-swapped, swapped_is}
use Rattle.path_laws.proofs.OneLabel.{IsExchange, r_exchanges, s_exchanges}
use Rattle.path_laws.proofs.PlaceLemmas.{weight_by_place}
use Rattle.path_laws.proofs.PlaceWeights as W
use Rattle.path_laws.proofs.Across.{IsAt}

module _ {E : Type 0} (c : Symbols E) {K : Held E} (laws : RingLaws c.ring K) where
  abbrev o : E → E → E
  o = c.ring.product

  abbrev conj : E → E
  conj = c.ring.conjugate

  -- a vector times one, which is of the ring and which products don't tell from it
  abbrev pub by_one : Vector E → Vector E
  by_one v x = o (v x) c.ring.one

  -- a product sees a value times one
  pub times_one : (m v : E) → o m (o v c.ring.one) ≡ o m v
  times_one m v = sym (laws.product_assoc m v c.ring.one) ∙ laws.product-one _ (laws.product_is m v)

  weight_by_one : (ss : List ℕ) (v : Vector E) → weight c ss (by_one v) ≡ weight c ss v
  weight_by_one ss v j = sum_over c.ring (λ x. o (path_weight c ss x) (square (v x) j)) (paths c ss)
    where
      group : (v k : E) → o (o v c.ring.one) (o k c.ring.one) ≡ o (o (o v k) c.ring.one) c.ring.one
      group v k = simp (laws.product_assoc, S.product_left laws)

      square : (v : E) → o (o v c.ring.one) (conj (o v c.ring.one)) ≡ o v (conj v)
      square v =
          ap (o (o v c.ring.one)) (laws.conjugate-product v c.ring.one ∙ ap (o (conj v)) (I.one-conj c laws))
          ∙ (group v (conj v) ∙ (laws.product-one _ (laws.product_is _ _) ∙ laws.product-one _ (laws.product_is _ _)))

  pub acted_by_one : (ss after : List ℕ) (k : ℕ) (kernel : Kernel E) (v : Vector E) → acted c ss after k kernel (by_one v) ≡ acted c ss after k kernel v
  acted_by_one ss after k kernel v j x =
      if is_path c after x then total c.ring c.count (λ t. term x t j) else c.ring.zero
    where
      term : (x : Path) (t : ℕ) → term_at c ss k kernel (by_one v) x t ≡ term_at c ss k kernel v x t
      term x t = times_one _ _

  module _ (proper : IsProper c) (equations : HasEquations c) (weighted : IsWeighted c) where
    pub exchange_is : (sign : Sign) → IsExchange c (exchange_by c sign)
    exchange_is Plus = r_exchanges c laws proper weighted equations
    exchange_is Minus = s_exchanges c laws proper weighted equations

    -- a vector times one, by place
    is_at : (ss : List ℕ) (v : Vector E) (i k : ℕ) → k ≡ i + 1 → k < length ss → IsAt c (slice_index ss) i (A.at_places c laws proper ss (by_one v))
    is_at ss v i k at low = A.at_places_at c laws proper ss (by_one v) i k at low (λ x. laws.product_is _ _)

    pub braids_keep : BraidsKeepWeight c
    braids_keep ss v sign k above low =
        let i = k - 1 in
        let at : k ≡ (k - 1) + 1 = omega (arith, above) in
        let V = A.at_places c laws proper ss (by_one v) in
        let is = A.at_places_is c laws proper ss (by_one v) in
        ap (weight c (swapped ss k)) (sym (acted_by_one ss (swapped ss k) k (braid_kernel c sign) v))
        ∙ (weight_by_place c laws proper (swapped ss k) (braided c ss sign k (by_one v)) (O.braided c (exchange_by c sign) (slice_index ss) (k - 1) V)
        (A.acted_by_place c laws proper (braid_kernel c sign) (A.kernel_off c laws proper (Exchange sign)) ss (swapped ss k) (k - 1) k at low (after_is (Exchange sign) ss (k - 1) k at low) (by_one v) V is)
        ∙ ((λ j. T.weight c (length-swapped ss k j) (swapped_is ss (k - 1) k at low j) (O.braided c (exchange_by c sign) (slice_index ss) (k - 1) V))
        ∙ (W.braid_keeps c laws proper equations weighted (exchange_by c sign) (exchange_is sign) (length ss) (k - 1) (slice_index ss) V (omega (arith, above, low)) (is_at ss v (k - 1) k at low)
        ∙ (sym (weight_by_place c laws proper ss (by_one v) V is) ∙ weight_by_one ss v))))

    pub charges_share : ChargesShareWeight c
    charges_share ss v k above low =
        let at : k ≡ (k - 1) + 1 = omega (arith, above) in
        let V = A.at_places c laws proper ss (by_one v) in
        let is = A.at_places_is c laws proper ss (by_one v) in
        S.total_same laws c.count _ _ (λ q _.
        ap (weight c ss) (sym (acted_by_one ss ss k (charge_kernel c q) v))
        ∙ weight_by_place c laws proper ss (projected c ss k q (by_one v)) (O.projected c (slice_index ss) (k - 1) q V)
        (A.acted_by_place c laws proper (charge_kernel c q) (A.kernel_off c laws proper (Project q)) ss ss (k - 1) k at low (after_is (Project q) ss (k - 1) k at low) (by_one v) V is))
        ∙ (W.charges_share c laws proper equations weighted (length ss) (k - 1) (slice_index ss) V (omega (arith, above, low)) (is_at ss v (k - 1) k at low)
        ∙ (sym (weight_by_place c laws proper ss (by_one v) V is) ∙ weight_by_one ss v))
