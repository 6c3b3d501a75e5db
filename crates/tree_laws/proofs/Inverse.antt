-- A raise is undone by the raise of the node that was its parent.
use Rattle.std.proofs.Common.{◌≡◌, ℕ, ◌+◌, ◌<◌, Bool, true, ap, sym, ◌∙◌, arith, inl, inr}
use Rattle.std.specs.Prelude.{IsTrue, ◌==◌, ◌&&◌}
use Rattle.std.proofs.lemmas.Bool.Decides.{eqb_tells}
use Rattle.ring_laws.specs.Ring.{Held, RingLaws}
use Rattle.ring_laws.specs.Sums.{total}
use Rattle.ring_laws.proofs.SumLemmas as S
use Rattle.symbol_table.specs.AllLabels.{IsProper, HasEquations, goes_left, goes_right, mark}
use Rattle.symbol_table.specs.Symbols.{Symbols}
use Rattle.tree_shapes.specs.Outlines.{Outline, size}
use Rattle.tree_shapes.proofs.ContextLemmas.{size_above}
use Rattle.tree_laws.specs.Recoupling.{turned, raised_left, raised_right}
use Rattle.tree_laws.specs.Trees.{top, put}
use Rattle.tree_laws.proofs.Equations as Q
use Rattle.tree_laws.proofs.Factor.{top_same}
use Rattle.tree_laws.proofs.Keys.{Key, same_key, put_off, put_swap, turned_put, turned_off, turned_at, turned_to}

put_own : (k : ℕ) (key : Key) → put k (key k) key ≡ key
put_own k key = same_key _ _ (λ g.
    elim (eqb_tells g k) [
      | inl here ↦ S.if_yes _ (key k) (key g) here.0 ∙ ap key (sym here.1)
      | inr off ↦ put_off k (key k) key g off.1
    ])

-- two labels turned, and turned back
there_and_back : (u v f e : ℕ) (key : Key) → (u ≡ v → ⊥) → turned u v (turned v u key f) e ≡ put u e key
there_and_back u v f e key apart =
    ap (λ z. turned u v z e) (put_swap v u f (key v) key (λ s. apart (sym s)))
    ∙ (turned_put u v e (key v) f key apart ∙ ap (put u e) (put_own v key))

module _ {E : Type 0} (c : Symbols E) {K : Held E} (laws : RingLaws c.ring K) (proper : IsProper c) (equations : HasEquations c) (strand : ℕ → ℕ) (A B C : Outline) (i : ℕ) where
  abbrev o : E → E → E
  o = c.ring.product

  abbrev n : ℕ
  n = c.count

  -- the upper and the lower gap
  abbrev k : ℕ
  k = i + size A

  abbrev p : ℕ
  p = (i + size A) + size B

  apart : i + size A ≡ (i + size A) + size B → ⊥
  apart e = omega (arith, e, size_above B)

  -- over by G and back by I, which is its inverse at the label e
  back : (e : ℕ) (ok : Bool) (G I : ℕ → ℕ → E) (v : ℕ → E) → IsTrue (c.ring.member (v e)) → ok ≡ true → e < n
      → ((t : ℕ) → total c.ring n (λ f. o (G t f) (I f e)) ≡ mark c (e == t && ok))
      → total c.ring n (λ f. o (I f e) (total c.ring n (λ t. o (G t f) (v t)))) ≡ v e
  back e ok G I v member on low inverse =
      S.total_same laws n _ _ (λ f _. S.product-total laws n _ _)
      ∙ (S.total_swap laws n n _
      ∙ (S.total_same laws n _ (λ t. o (v t) (mark c (e == t && ok))) (λ t _.
      S.total_same laws n _ (λ f. o (v t) (o (G t f) (I f e))) (λ f _. group _ _ _)
      ∙ (sym (S.product-total laws n (v t) _) ∙ ap (o (v t)) (inverse t)))
      ∙ S.picked_at laws n e ok v member (λ off. absurd (Q.clash ok off on)) (λ _. low)))
    where
      group : (h g w : E) → o h (o g w) ≡ o w (o g h)
      group h g w = simp (laws.product_assoc, laws.product_comm, S.product_left laws)

  -- the tops of the three subtrees are at neither gap
  abbrev at_tops : (ℕ → ℕ → ℕ → ℕ → ℕ → ℕ → E) → Key → ℕ → ℕ → ℕ → E
  at_tops g key = g (top A strand key i) (top B strand key (i + size A)) (top C strand key ((i + size A) + size B))

  tops_stay : (g : ℕ → ℕ → ℕ → ℕ → ℕ → ℕ → E) (z key : Key) → ((j : ℕ) → (j ≡ i + size A → ⊥) → (j ≡ (i + size A) + size B → ⊥) → z j ≡ key j) → at_tops g z ≡ at_tops g key
  tops_stay g z key off j =
      g (top_same A strand z key i (λ x above below. off x (λ e. omega arith) (λ e. omega arith)) j)
      (top_same B strand z key (i + size A) (λ x above below. off x (λ e. omega arith) (λ e. omega arith)) j)
      (top_same C strand z key ((i + size A) + size B) (λ x above below. off x (λ e. omega arith) (λ e. omega arith)) j)

  pub undone_left : (value : Key → E) → ((key : Key) → IsTrue (c.ring.member (value key))) → (key : Key)
      → goes_left c (top A strand key i) (top B strand key k) (top C strand key p) (key p) (key k) ≡ true
      → raised_right c A B C i strand (raised_left c A B C i strand value) key ≡ value key
  undone_left value members key on =
      let a = top A strand key i in
      let b = top B strand key (i + size A) in
      let m = top C strand key ((i + size A) + size B) in
      let d = key ((i + size A) + size B) in
      let e = key (i + size A) in
      let low : key (i + size A) < c.count = (proper.labels a b e (Q.first_of_both _ _ on)).2 in
      S.total_same laws n _ (λ f. o (c.h a b m d f e) (total c.ring n (λ t. o (c.f a b m d t f) (value (put (i + size A) t key))))) (λ f _. ap (o (c.h a b m d f e)) (inside f))
      ∙ (back e (goes_left c a b m d e) (λ t f. c.f a b m d t f) (λ f e. c.h a b m d f e) (λ t. value (put (i + size A) t key)) (members _) on low (λ t. equations.inverse_f a b m d t e)
      ∙ ap value (put_own (i + size A) key))
    where
      inside : (f : ℕ) → raised_left c A B C i strand value (turned ((i + size A) + size B) (i + size A) key f)
          ≡ total c.ring c.count (λ t. c.ring.product (c.f (top A strand key i) (top B strand key (i + size A)) (top C strand key ((i + size A) + size B)) (key ((i + size A) + size B)) t f) (value (put (i + size A) t key)))
      inside f =
          let z = turned ((i + size A) + size B) (i + size A) key f in
          let tops = tops_stay c.f z key (λ j off_k off_p. turned_off ((i + size A) + size B) (i + size A) f key j off_p off_k) in
          let at_k = turned_to ((i + size A) + size B) (i + size A) f key (λ s. apart (sym s)) in
          let at_p = turned_at ((i + size A) + size B) (i + size A) f key in
          S.total_same laws c.count _ _ (λ t _. λ j. c.ring.product (tops j (at_k j) t (at_p j)) (value (there_and_back (i + size A) ((i + size A) + size B) f t key apart j)))

  pub undone_right : (value : Key → E) → ((key : Key) → IsTrue (c.ring.member (value key))) → (key : Key)
      → goes_right c (top A strand key i) (top B strand key k) (top C strand key p) (key k) (key p) ≡ true
      → raised_left c A B C i strand (raised_right c A B C i strand value) key ≡ value key
  undone_right value members key on =
      let a = top A strand key i in
      let b = top B strand key (i + size A) in
      let m = top C strand key ((i + size A) + size B) in
      let d = key (i + size A) in
      let f = key ((i + size A) + size B) in
      let low : key ((i + size A) + size B) < c.count = (proper.labels b m f (Q.first_of_both _ _ on)).2 in
      S.total_same laws n _ (λ e. o (c.f a b m d e f) (total c.ring n (λ t. o (c.h a b m d t e) (value (put ((i + size A) + size B) t key))))) (λ e _. ap (o (c.f a b m d e f)) (inside e))
      ∙ (back f (goes_right c a b m d f) (λ t e. c.h a b m d t e) (λ e f. c.f a b m d e f) (λ t. value (put ((i + size A) + size B) t key)) (members _) on low (λ t. equations.inverse_h a b m d t f)
      ∙ ap value (put_own ((i + size A) + size B) key))
    where
      inside : (e : ℕ) → raised_right c A B C i strand value (turned (i + size A) ((i + size A) + size B) key e)
          ≡ total c.ring c.count (λ t. c.ring.product (c.h (top A strand key i) (top B strand key (i + size A)) (top C strand key ((i + size A) + size B)) (key (i + size A)) t e) (value (put ((i + size A) + size B) t key)))
      inside e =
          let z = turned (i + size A) ((i + size A) + size B) key e in
          let tops = tops_stay c.h z key (λ j off_k off_p. turned_off (i + size A) ((i + size A) + size B) e key j off_k off_p) in
          let at_p = turned_to (i + size A) ((i + size A) + size B) e key apart in
          let at_k = turned_at (i + size A) ((i + size A) + size B) e key in
          S.total_same laws c.count _ _ (λ t _. λ j. c.ring.product (tops j (at_p j) t (at_k j)) (value (there_and_back ((i + size A) + size B) (i + size A) e t key (λ s. apart (sym s)) j)))
