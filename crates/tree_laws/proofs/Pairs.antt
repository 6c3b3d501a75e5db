-- A braid or a measurement at a pair is one product by a label's factor.
use Rattle.std.proofs.Common.{◌≡◌, ℕ, zero, suc, ◌+◌, ◌-◌, ◌<◌, ◌≤◌, Bool, true, false, refl, ap, ap₂, sym, ◌∙◌, arith, inl, inr, ◌⊎◌}
use Rattle.std.specs.Prelude.{IsTrue, ◌==◌, ◌&&◌}
use Rattle.std.proofs.lemmas.Bool.Decides.{eqb_tells}
use Rattle.ring_laws.specs.Ring.{Held, RingLaws}
use Rattle.ring_laws.specs.Sums.{total}
use Rattle.ring_laws.proofs.SumLemmas as S
use Rattle.symbol_table.specs.AllLabels.{IsProper, HasEquations, mark}
use Rattle.symbol_table.specs.Symbols.{Symbols}
use Rattle.tree_shapes.specs.Contexts.{Around, fill, place}
use Rattle.tree_shapes.specs.Outlines.{size}
use Rattle.tree_laws.specs.Laws.{ExchangesAtPair, SplitsAtPair, pair}
use Rattle.tree_laws.specs.Operators.{braid_by, swapped}
use Rattle.tree_laws.specs.Surroundings.{around}
use Rattle.tree_laws.specs.Trees.{amplitude, put, at_gap, at_gaps, stands_for}
use Rattle.tree_laws.proofs.Equations as Q
use Rattle.tree_laws.proofs.Factor.{factor, outside_same, Outside}
use Rattle.tree_laws.proofs.Keys.{Key, put_here, put_off, gaps_same}

module _ {E : Type 0} (c : Symbols E) {K : Held E} (laws : RingLaws c.ring K) where
  abbrev o : E → E → E
  o = c.ring.product

  pub gaps_product : (n : ℕ) (y : E) (G : Key → E) (key : Key) → o y (at_gaps c n G key) ≡ at_gaps c n (λ key. o y (G key)) key
  gaps_product zero y G key = refl
  gaps_product (suc n) y G key =
      gaps_product n y (at_gap c (suc n) G) key ∙ gaps_same c laws n _ _ (λ key. S.product-total laws c.count y (λ t. G (put (suc n) t key))) key

  pub gaps_total : (n m : ℕ) (G : ℕ → Key → E) (key : Key) → total c.ring m (λ t. at_gaps c n (G t) key) ≡ at_gaps c n (λ key. total c.ring m (λ t. G t key)) key
  gaps_total zero m G key = refl
  gaps_total (suc n) m G key =
      gaps_total n m (λ t. at_gap c (suc n) (G t)) key
      ∙ gaps_same c laws n _ _ (λ key. S.total_swap laws m c.count (λ t s. G t (put (suc n) s key))) key

  module _ (proper : IsProper c) (equations : HasEquations c) where
    -- the amplitude of a pair is one symbol
    marked : (h : E) (a b : Bool) → IsTrue (c.ring.member h) → ((a && b) ≡ false → h ≡ c.ring.zero) → o (o h (mark c a)) (mark c b) ≡ h
    marked h true true m off = laws.product-one _ (laws.product_is _ _) ∙ laws.product-one h m
    marked h true false m off = laws.product-zero _ ∙ sym (off refl)
    marked h false b m off = ap (λ y. o y (mark c b)) (laws.product-zero h) ∙ (S.zero-product laws _ ∙ sym (off refl))

    pub pair_is : (strand x key : ℕ → ℕ) (i : ℕ)
        → amplitude c pair strand x key i ≡ c.h (x i) (strand i) (strand (i + 1)) (x (i + 2)) (key (i + 1)) (x (i + 1))
    pair_is strand x key i =
        marked _ (c.fuse (x i) (strand i) (x (i + 1))) (c.fuse (x (i + 1)) (strand (i + 1)) (x ((i + 1) + 1))) (proper.h_is _ _ _ _ _ _)
        (λ off. Q.h_left c laws proper _ _ _ _ _ _ off)
        ∙ (let e : (i + 1) + 1 ≡ i + 2 = omega arith in ap (λ e. c.h (x i) (strand i) (strand (i + 1)) (x e) (key (i + 1)) (x (i + 1))) e)

    -- An operator at a pair, by its kernel on the label between: where it takes H to a multiple of H', it is that product by label.
    pub at_pair : (a : Around) (strand strand' x : ℕ → ℕ) (value : Key → E) (M D : ℕ → E)
        → ((g : ℕ) → g < place a 0 → strand g ≡ strand' g) → ((g : ℕ) → place a 0 + 2 ≤ g → strand g ≡ strand' g)
        → ((q : ℕ) → o (D q) (c.h (x (place a 0)) (strand' (place a 0)) (strand' (place a 0 + 1)) (x (place a 0 + 2)) q (x (place a 0 + 1)))
        ≡ total c.ring c.count (λ t. o (M t) (c.h (x (place a 0)) (strand (place a 0)) (strand (place a 0 + 1)) (x (place a 0 + 2)) q t)))
        → stands_for c (fill a pair) strand' (λ key. o (D (key (place a 0 + 1))) (value key)) x
        ≡ total c.ring c.count (λ t. o (M t) (stands_for c (fill a pair) strand value (put (place a 0 + 1) t x)))
    at_pair a strand strand' x value M D before after kernel =
        let i = place a 0 in
        let n = size (fill a pair) - 1 in
        sym (S.total_same laws c.count _ _ (λ t _. gaps_product n (M t) _ (λ _. 0))
        ∙ (gaps_total n c.count (λ t key. o (M t) (o (value key) (amplitude c (fill a pair) strand (put (place a 0 + 1) t x) key 0))) (λ _. 0)
        ∙ gaps_same c laws n _ _ (λ key. at_key key) (λ _. 0)))
      where
        W : Key → E
        W key = around c a (key (place a 0 + 1)) 2 strand' x key 0

        old : (key : Key) (t : ℕ) → amplitude c (fill a pair) strand (put (place a 0 + 1) t x) key 0
            ≡ o (W key) (c.h (x (place a 0)) (strand (place a 0)) (strand (place a 0 + 1)) (x (place a 0 + 2)) (key (place a 0 + 1)) t)
        old key t =
            let i = place a 0 in
            let here : Outside (place a 0) 2 strand (put (place a 0 + 1) t x) key strand' x key = record {
              strands_before = before;
              strands_after = after;
              paths_before = λ g low. put_off (place a 0 + 1) t x g (λ e. omega arith);
              paths_after = λ g high. put_off (place a 0 + 1) t x g (λ e. omega arith);
              keys_before = λ g low. refl;
              keys_after = λ g high. refl;
            } in
            factor c laws a pair strand (put (place a 0 + 1) t x) key 0
            ∙ ap₂ o (outside_same c laws a (key (place a 0 + 1)) 2 strand (put (place a 0 + 1) t x) key strand' x key 0 (omega arith) here)
            (pair_is strand (put (place a 0 + 1) t x) key i
            ∙ (λ j. c.h (put_off (place a 0 + 1) t x (place a 0) (λ e. omega arith) j) (strand i) (strand (i + 1)) (put_off (place a 0 + 1) t x (place a 0 + 2) (λ e. omega arith) j) (key (i + 1)) (put_here (place a 0 + 1) t x j)))

        new : (key : Key) → amplitude c (fill a pair) strand' x key 0
            ≡ o (W key) (c.h (x (place a 0)) (strand' (place a 0)) (strand' (place a 0 + 1)) (x (place a 0 + 2)) (key (place a 0 + 1)) (x (place a 0 + 1)))
        new key = factor c laws a pair strand' x key 0 ∙ ap (o (W key)) (pair_is strand' x key (place a 0))

        out : (m v w h : E) → o m (o v (o w h)) ≡ o (o v w) (o m h)
        out m v w h = simp (laws.product_assoc, laws.product_comm, S.product_left laws)

        back : (d v w h : E) → o (o v w) (o d h) ≡ o (o d v) (o w h)
        back d v w h = simp (laws.product_assoc, laws.product_comm, S.product_left laws)

        at_key : (key : Key) → total c.ring c.count (λ t. o (M t) (o (value key) (amplitude c (fill a pair) strand (put (place a 0 + 1) t x) key 0)))
            ≡ o (o (D (key (place a 0 + 1))) (value key)) (amplitude c (fill a pair) strand' x key 0)
        at_key key =
            S.total_same laws c.count _ _ (λ t _. ap (λ y. o (M t) (o (value key) y)) (old key t) ∙ out _ _ _ _)
            ∙ (sym (S.product-total laws c.count (o (value key) (W key)) _)
            ∙ (ap (o (o (value key) (W key))) (sym (kernel (key (place a 0 + 1))))
            ∙ (back _ _ _ _ ∙ ap (o (o (D (key (place a 0 + 1))) (value key))) (sym (new key)))))

    -- a braid's kernel takes H to the exchanged H, times the exchange
    pub braid_kernel : (ex : ℕ → ℕ → ℕ → E) → ((a b q : ℕ) → c.fuse a b q ≡ false → ex a b q ≡ c.ring.zero) → (p a b y q u : ℕ)
        → o (ex a b q) (c.h p b a y q u) ≡ total c.ring c.count (λ t. o (braid_by c ex p a b y t u) (c.h p a b y q t))
    braid_kernel ex off p a b y q u =
        sym (S.total_same laws c.count _ (λ t. total c.ring c.count (λ r. o (o (ex a b r) (c.h p b a y r u)) (o (c.h p a b y q t) (c.f p a b y t r))))
        (λ t _. S.total-product laws c.count (c.h p a b y q t) _ ∙ S.total_same laws c.count _ _ (λ r _. group _ _ _ _))
        ∙ (S.total_swap laws c.count c.count _
        ∙ (S.total_same laws c.count _ _ (λ r _. sym (S.product-total laws c.count _ _) ∙ ap (o (o (ex a b r) (c.h p b a y r u))) (equations.inverse_h p a b y q r))
        ∙ S.picked laws c.count q (λ r. c.fuse a b r && c.fuse p r y) (λ r. o (ex a b r) (c.h p b a y r u)) (laws.product_is _ _)
        (λ none. Q.off_first c laws proper _ _ _ _ none (λ w. Q.left_none c laws proper _ _ (off a b q w)) (λ w. Q.right_none c laws proper _ _ (Q.h_gone c laws proper p b a y q u _ w (λ h. h.afd))))
        (λ on. (proper.labels a b q (Q.first_of_both _ _ on)).2))))
      where
        group : (f r h g : E) → o (o (o f r) h) g ≡ o (o r h) (o g f)
        group f r h g = simp (laws.product_assoc, laws.product_comm, S.product_left laws)

    -- a projection's kernel takes H at another label to nothing
    pub projection_kernel : (p a b y z q u : ℕ)
        → o (mark c (q == z)) (c.h p a b y q u) ≡ total c.ring c.count (λ t. o (o (c.f p a b y t z) (c.h p a b y z u)) (c.h p a b y q t))
    projection_kernel p a b y z q u =
        sym (S.total_same laws c.count _ (λ t. o (c.h p a b y z u) (o (c.h p a b y q t) (c.f p a b y t z))) (λ t _. group _ _ _)
        ∙ (sym (S.product-total laws c.count _ _)
        ∙ (ap (o (c.h p a b y z u)) (equations.inverse_h p a b y q z) ∙ at_mark (eqb_tells z q))))
      where
        group : (f h g : E) → o (o f h) g ≡ o h (o g f)
        group f h g = simp (laws.product_assoc, laws.product_comm, S.product_left laws)

        at_mark : ((z == q) ≡ true) × (z ≡ q) ⊎ ((z == q) ≡ false) × (z ≡ q → ⊥)
            → o (c.h p a b y z u) (mark c (z == q && (c.fuse a b z && c.fuse p z y))) ≡ o (mark c (q == z)) (c.h p a b y q u)
        at_mark (inr no') =
            S.product-mark_no laws (z == q && (c.fuse a b z && c.fuse p z y)) _ (S.and_no _ _ no'.0)
            ∙ sym (laws.product_comm _ _ ∙ S.product-mark_no laws (q == z) _ (Q.same_test q z ∙ no'.0))
        at_mark (inl same) = at_right (S.true_or_false (c.fuse a b z && c.fuse p z y))
          where
            at_right : ((c.fuse a b z && c.fuse p z y) ≡ true) ⊎ ((c.fuse a b z && c.fuse p z y) ≡ false)
                → o (c.h p a b y z u) (mark c (z == q && (c.fuse a b z && c.fuse p z y))) ≡ o (mark c (q == z)) (c.h p a b y q u)
            at_right (inl on) =
                S.product-mark_yes laws (z == q && (c.fuse a b z && c.fuse p z y)) _ (S.and_yes _ _ same.0 on) (proper.h_is _ _ _ _ _ _)
                ∙ (ap (λ w. c.h p a b y w u) same.1
                ∙ sym (laws.product_comm _ _ ∙ S.product-mark_yes laws (q == z) _ (Q.same_test q z ∙ same.0) (proper.h_is _ _ _ _ _ _)))
            at_right (inr off) =
                S.product-mark_no laws (z == q && (c.fuse a b z && c.fuse p z y)) _ (S.and_right (z == q) _ off)
                ∙ sym (Q.right_none c laws proper _ _ (ap (λ w. c.h p a b y w u) (sym same.1) ∙ Q.h_right c laws proper p a b y u z off))

    -- An exchange at a pair is the comb braid.
    pub exchanged_is : (ex : ℕ → ℕ → ℕ → E) → ((a b q : ℕ) → c.fuse a b q ≡ false → ex a b q ≡ c.ring.zero) → ExchangesAtPair c ex
    exchanged_is ex off a strand x value =
        let i = place a 0 in
        let first : swapped (place a 0) strand (place a 0) ≡ strand (place a 0 + 1) = put_here i (strand (i + 1)) (put (i + 1) (strand i) strand) in
        let second : swapped (place a 0) strand (place a 0 + 1) ≡ strand (place a 0) = put_off i (strand (i + 1)) (put (i + 1) (strand i) strand) (i + 1) (λ e. omega arith) ∙ put_here (i + 1) (strand i) strand in
        at_pair a strand (swapped (place a 0) strand) x value
        (λ t. braid_by c ex (x i) (strand i) (strand (i + 1)) (x (i + 2)) t (x (i + 1))) (λ q. ex (strand i) (strand (i + 1)) q)
        (λ g low. sym (swapped_off i strand g (λ e. omega arith) (λ e. omega arith)))
        (λ g high. sym (swapped_off i strand g (λ e. omega arith) (λ e. omega arith)))
        (λ q. (λ j. o (ex (strand i) (strand (i + 1)) q) (c.h (x i) (first j) (second j) (x (i + 2)) q (x (i + 1))))
        ∙ braid_kernel ex off (x i) (strand i) (strand (i + 1)) (x (i + 2)) q (x (i + 1)))
      where
        swapped_off : (i : ℕ) (strand : ℕ → ℕ) (g : ℕ) → (g ≡ i → ⊥) → (g ≡ i + 1 → ⊥) → swapped i strand g ≡ strand g
        swapped_off i strand g a b = put_off i (strand (i + 1)) (put (i + 1) (strand i) strand) g a ∙ put_off (i + 1) (strand i) strand g b

    -- A part of a split at a pair is the comb projection.
    pub split_is : SplitsAtPair c
    split_is a strand x value z =
        let i = place a 0 in
        at_pair a strand strand x value
        (λ t. o (c.f (x i) (strand i) (strand (i + 1)) (x (i + 2)) t z) (c.h (x i) (strand i) (strand (i + 1)) (x (i + 2)) z (x (i + 1)))) (λ q. mark c (q == z))
        (λ g low. refl) (λ g high. refl)
        (λ q. projection_kernel (x i) (strand i) (strand (i + 1)) (x (i + 2)) z q (x (i + 1)))
