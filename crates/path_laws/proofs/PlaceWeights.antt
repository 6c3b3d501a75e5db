-- A braid at a gap keeps the weight of a vector by place, and the charges at a gap share it.
use Rattle.std.proofs.Common.{◌≡◌, ℕ, zero, suc, ◌+◌, ◌-◌, ◌<◌, ◌≤◌, refl, ap, ap₂, sym, ◌∙◌, arith}
use Rattle.ring_laws.specs.Ring.{Held, RingLaws}
use Rattle.ring_laws.specs.Sums.{total}
use Rattle.ring_laws.proofs.SumLemmas as S
use Rattle.symbol_table.specs.AllLabels.{IsProper, HasEquations, IsWeighted}
use Rattle.symbol_table.specs.Symbols.{Symbols}
use Rattle.comb_laws.specs.Operators.{charge_kernel}
use Rattle.tree_laws.specs.Operators.{braid_by, swapped, braided, projected}
use Rattle.tree_laws.specs.Trees.{put, at_gap}
use Rattle.tree_laws.specs.Weights.{along, weight}
use Rattle.tree_laws.proofs.Keys.{Key, put_off, gaps_by_one}
use Rattle.tree_laws.proofs.Pairs.{gaps_total}
use Rattle.path_laws.proofs.OneLabel.{IsExchange}
use Rattle.path_laws.proofs.OneLabel as L
use Rattle.path_laws.proofs.Across.{IsAt, across_put, at_put, none_put, swapped_first, swapped_second, swapped_off}

module _ {E : Type 0} (c : Symbols E) {K : Held E} (laws : RingLaws c.ring K) where
  abbrev o : E → E → E
  o = c.ring.product

  -- the weights along a path but for those of the strands i + 1 and i + 2: the strands before, and m after
  abbrev beside : Key → Key → ℕ → ℕ → E
  beside strand x i zero = along c strand x 0 i
  beside strand x i (suc m) = o (beside strand x i m) (c.w (x ((i + 2) + m)) (strand ((i + 2) + m)) (x (((i + 2) + m) + 1)))

  along_same : (strand strand' x x' : Key) (n : ℕ) → ((g : ℕ) → g < n → strand g ≡ strand' g) → ((g : ℕ) → g ≤ n → x g ≡ x' g) → along c strand x 0 n ≡ along c strand' x' 0 n
  along_same strand strand' x x' zero s p = refl
  along_same strand strand' x x' (suc n) s p =
      ap₂ o (along_same strand strand' x x' n (λ g h. s g (omega arith)) (λ g h. p g (omega arith)))
      (λ j. c.w (p (0 + n) (omega arith) j) (s (0 + n) (omega arith) j) (p ((0 + n) + 1) (omega arith) j))

  beside_same : (strand strand' x x' : Key) (i m : ℕ) → ((g : ℕ) → (g ≡ i → ⊥) → (g ≡ i + 1 → ⊥) → strand g ≡ strand' g) → ((g : ℕ) → (g ≡ i + 1 → ⊥) → x g ≡ x' g)
      → beside strand x i m ≡ beside strand' x' i m
  beside_same strand strand' x x' i zero s p = along_same strand strand' x x' i (λ g h. s g (λ e. omega arith) (λ e. omega arith)) (λ g h. p g (λ e. omega arith))
  beside_same strand strand' x x' i (suc m) s p =
      ap₂ o (beside_same strand strand' x x' i m s p)
      (λ j. c.w (p ((i + 2) + m) (λ e. omega arith) j) (s ((i + 2) + m) (λ e. omega arith) (λ e. omega arith) j) (p (((i + 2) + m) + 1) (λ e. omega arith) j))

  -- the two weights at a gap, and those beside
  along_is : (strand x : Key) (i m : ℕ)
      → along c strand x 0 ((i + 2) + m) ≡ o (beside strand x i m) (o (c.w (x i) (strand i) (x (i + 1))) (c.w (x (i + 1)) (strand (i + 1)) (x (i + 2))))
  along_is strand x i zero =
      let all : (i + 2) + 0 ≡ suc (suc i) = omega arith in
      let at_i : 0 + i ≡ i = omega arith in
      let at_next : 0 + suc i ≡ i + 1 = omega arith in
      let at_end : (0 + suc i) + 1 ≡ i + 2 = omega arith in
      ap (along c strand x 0) all
      ∙ ((λ j. o (o (along c strand x 0 i) (c.w (x (at_i j)) (strand (at_i j)) (x (at_i j + 1)))) (c.w (x (at_next j)) (strand (at_next j)) (x (at_end j))))
      ∙ laws.product_assoc _ _ _)
  along_is strand x i (suc m) =
      let up : (i + 2) + suc m ≡ suc ((i + 2) + m) = omega arith in
      let at : 0 + ((i + 2) + m) ≡ (i + 2) + m = omega arith in
      ap (along c strand x 0) up
      ∙ ((λ j. o (along_is strand x i m j) (c.w (x (at j)) (strand (at j)) (x (at j + 1)))) ∙ turn _ _ _)
    where
      turn : (r w v : E) → o (o r w) v ≡ o (o r v) w
      turn r w v = simp (laws.product_assoc, laws.product_comm)

  -- the term of a vector's weight, summed over the label at a gap
  at_one : (strand x : Key) (i m : ℕ) (v : Key → E)
      → at_gap c (i + 1) (λ x. o (along c strand x 0 ((i + 2) + m)) (o (v x) (c.ring.conjugate (v x)))) x
      ≡ o (beside strand x i m) (total c.ring c.count (λ t. o (o (c.w (x i) (strand i) t) (c.w t (strand (i + 1)) (x (i + 2)))) (o (v (put (i + 1) t x)) (c.ring.conjugate (v (put (i + 1) t x))))))
  at_one strand x i m v =
      S.total_same laws c.count _ _ (λ t _.
      let z = put (i + 1) t x in
      ap (λ y. o y (o (v z) (c.ring.conjugate (v z))))
      (along_is strand z i m
      ∙ ap₂ o (beside_same strand strand z x i m (λ g _ _. refl) (λ g off. put_off (i + 1) t x g off)) (at_put (λ p t y. o (c.w p (strand i) t) (c.w t (strand (i + 1)) y)) i t x))
      ∙ laws.product_assoc _ _ _)
      ∙ sym (S.product-total laws c.count (beside strand x i m) _)

  module _ (proper : IsProper c) (equations : HasEquations c) (weighted : IsWeighted c) where
    -- An exchange at gap i + 1 keeps the weight.
    pub braid_keeps : (exchange : ℕ → ℕ → ℕ → E) → IsExchange c exchange → (n i : ℕ) (strand : Key) (v : Key → E) → i + 2 ≤ n → IsAt c strand i v
        → weight c n (swapped i strand) (braided c exchange strand i v) ≡ weight c n strand v
    braid_keeps exchange ex n i strand v fits is =
        let m = n - (i + 2) in
        let all : n ≡ (i + 2) + (n - (i + 2)) = omega arith in
        gaps_by_one c laws n (i + 1) _ _ (omega arith) (omega arith) (λ x.
        (λ j. at_gap c (i + 1) (λ x. o (along c (swapped i strand) x 0 (all j)) (o (braided c exchange strand i v x) (c.ring.conjugate (braided c exchange strand i v x)))) x)
        ∙ (at_one (swapped i strand) x i m (braided c exchange strand i v)
        ∙ ((λ j. o (beside_same (swapped i strand) strand x x i m (λ g a b. swapped_off i strand g a b) (λ g _. refl) j)
        (total c.ring c.count (λ t. o (o (c.w (x i) (swapped_first i strand j) t) (c.w t (swapped_second i strand j) (x (i + 2)))) (o (new x t j) (c.ring.conjugate (new x t j))))))
        ∙ (ap (o (beside strand x i m)) (L.exchange_keeps c laws proper equations weighted exchange ex (x i) (strand i) (strand (i + 1)) (x (i + 2)) (λ t. v (put (i + 1) t x)) (λ t. is.members _) (none_put c strand i v is x))
        ∙ (sym (at_one strand x i m v)
        ∙ (λ j. at_gap c (i + 1) (λ x. o (along c strand x 0 (sym all j)) (o (v x) (c.ring.conjugate (v x)))) x)))))) (λ _. 0)
      where
        new : (x : Key) (t : ℕ) → braided c exchange strand i v (put (i + 1) t x) ≡ L.act c laws proper equations exchange (x i) (strand i) (strand (i + 1)) (x (i + 2)) (λ t. v (put (i + 1) t x)) t
        new x t = across_put c (braid_by c exchange) strand x i t v

    -- The charges at gap i + 1 share the weight.
    pub charges_share : (n i : ℕ) (strand : Key) (v : Key → E) → i + 2 ≤ n → IsAt c strand i v
        → total c.ring c.count (λ q. weight c n strand (projected c strand i q v)) ≡ weight c n strand v
    charges_share n i strand v fits is =
        let m = n - (i + 2) in
        let all : n ≡ (i + 2) + (n - (i + 2)) = omega arith in
        gaps_total c laws n c.count (λ q x. o (along c strand x 0 n) (o (projected c strand i q v x) (c.ring.conjugate (projected c strand i q v x)))) (λ _. 0)
        ∙ gaps_by_one c laws n (i + 1) _ _ (omega arith) (omega arith) (λ x.
        S.total_swap laws c.count c.count _
        ∙ ((λ j. total c.ring c.count (λ q. at_gap c (i + 1) (λ x. o (along c strand x 0 (all j)) (o (projected c strand i q v x) (c.ring.conjugate (projected c strand i q v x)))) x))
        ∙ (S.total_same laws c.count _ _ (λ q _. at_one strand x i m (projected c strand i q v) ∙ ap (o (beside strand x i m)) (by_part q x))
        ∙ (sym (S.product-total laws c.count (beside strand x i m) _)
        ∙ (ap (o (beside strand x i m)) (L.charges_share c laws proper equations weighted (x i) (strand i) (strand (i + 1)) (x (i + 2)) (λ t. v (put (i + 1) t x)) (λ t. is.members _) (none_put c strand i v is x))
        ∙ (sym (at_one strand x i m v)
        ∙ (λ j. at_gap c (i + 1) (λ x. o (along c strand x 0 (sym all j)) (o (v x) (c.ring.conjugate (v x)))) x))))))) (λ _. 0)
      where
        new : (q : ℕ) (x : Key) (t : ℕ) → projected c strand i q v (put (i + 1) t x) ≡ L.part c laws proper equations weighted q (x i) (strand i) (strand (i + 1)) (x (i + 2)) (λ t. v (put (i + 1) t x)) t
        new q x t = across_put c (charge_kernel c q) strand x i t v

        by_part : (q : ℕ) (x : Key)
            → total c.ring c.count (λ t. o (o (c.w (x i) (strand i) t) (c.w t (strand (i + 1)) (x (i + 2)))) (o (projected c strand i q v (put (i + 1) t x)) (c.ring.conjugate (projected c strand i q v (put (i + 1) t x)))))
            ≡ L.weight_between c laws proper equations weighted (x i) (strand i) (strand (i + 1)) (x (i + 2)) (L.part c laws proper equations weighted q (x i) (strand i) (strand (i + 1)) (x (i + 2)) (λ t. v (put (i + 1) t x)))
        by_part q x j = total c.ring c.count (λ t. o (o (c.w (x i) (strand i) t) (c.w t (strand (i + 1)) (x (i + 2)))) (o (new q x t j) (c.ring.conjugate (new q x t j))))
