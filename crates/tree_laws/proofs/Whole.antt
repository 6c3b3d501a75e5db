-- What holds of the amplitudes of a subtree holds of the whole tree's.
use Rattle.std.proofs.Common.{◌≡◌, ℕ, ◌+◌, ◌≤◌, refl, ap, sym, ◌∙◌}
use Rattle.ring_laws.specs.Ring.{Held, RingLaws}
use Rattle.ring_laws.specs.Sums.{total}
use Rattle.ring_laws.proofs.SumLemmas as S
use Rattle.symbol_table.specs.Symbols.{Symbols}
use Rattle.tree_shapes.specs.Contexts.{Around, fill, place}
use Rattle.tree_shapes.specs.Outlines.{Outline, size}
use Rattle.tree_shapes.proofs.ContextLemmas.{size_above}
use Rattle.tree_laws.specs.Surroundings.{around}
use Rattle.tree_laws.specs.Trees.{top, amplitude}
use Rattle.tree_laws.proofs.Keys.{Key}
use Rattle.tree_laws.proofs.Factor.{factor, outside_same}

module _ {E : Type 0} (c : Symbols E) {K : Held E} (laws : RingLaws c.ring K) (strand x : ℕ → ℕ) where
  -- The amplitude of a tree at i is a sum of those of another with as many strands, whose keys differ inside alone.
  pub record Spread (t t' : Outline) (i : ℕ) (key : Key) (keys : ℕ → Key) (g : ℕ → E) : Type 0 where
    pub sizes : size t ≡ size t'
    pub tops : (s : ℕ) → top t strand key i ≡ top t' strand (keys s) i
    pub before : (s j : ℕ) → j ≤ i → keys s j ≡ key j
    pub after : (s j : ℕ) → i + size t ≤ j → keys s j ≡ key j
    pub amps : amplitude c t strand x key i ≡ total c.ring c.count (λ s. c.ring.product (g s) (amplitude c t' strand x (keys s) i))

  pub whole : (a : Around) (t t' : Outline) (i : ℕ) (key : Key) (keys : ℕ → Key) (g : ℕ → E) → Spread t t' (place a i) key keys g
      → amplitude c (fill a t) strand x key i ≡ total c.ring c.count (λ s. c.ring.product (g s) (amplitude c (fill a t') strand x (keys s) i))
  whole a t t' i key keys g h =
      let outer = λ (s : ℕ). outside_same c laws a (top t strand key (place a i)) (size t) strand x key strand x (keys s) i (size_above t)
      (record {
        strands_before = λ j _. refl;
        strands_after = λ j _. refl;
        paths_before = λ j _. refl;
        paths_after = λ j _. refl;
        keys_before = λ j low. sym (h.before s j low);
        keys_after = λ j high. sym (h.after s j high);
      }) in
      factor c laws a t strand x key i
      ∙ (ap (c.ring.product (around c a (top t strand key (place a i)) (size t) strand x key i)) h.amps
      ∙ (S.product-total laws c.count _ _
      ∙ S.total_same laws c.count _ _ (λ s _. S.product_left laws _ _ _ ∙ ap (c.ring.product (g s))
      (ap (λ w. c.ring.product w (amplitude c t' strand x (keys s) (place a i))) (outer s)
      ∙ ((λ j. c.ring.product (around c a (h.tops s j) (h.sizes j) strand x (keys s) i) (amplitude c t' strand x (keys s) (place a i)))
      ∙ sym (factor c laws a t' strand x (keys s) i))))))
