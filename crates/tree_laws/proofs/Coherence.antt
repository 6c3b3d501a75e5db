-- A recoupling changes nothing that a state means.
use Rattle.std.proofs.Common.{◌≡◌, ℕ, ◌+◌, ◌≤◌, ◌-◌, ap, sym, ◌∙◌, arith}
use Rattle.ring_laws.specs.Ring.{Held, RingLaws}
use Rattle.ring_laws.specs.Sums.{total}
use Rattle.ring_laws.proofs.SumLemmas as S
use Rattle.symbol_table.specs.AllLabels.{IsProper, HasEquations}
use Rattle.symbol_table.specs.Symbols.{Symbols}
use Rattle.tree_shapes.specs.Contexts.{Around, fill, place, on_left, on_right}
use Rattle.tree_shapes.specs.Outlines.{Outline, Branch, size}
use Rattle.tree_shapes.proofs.ContextLemmas.{size_above, fill_size, place_below}
use Rattle.tree_laws.specs.Entries.{values}
use Rattle.tree_laws.specs.Laws.{RaisingLeftKeeps, RaisingRightKeeps}
use Rattle.tree_laws.specs.Recoupling.{turned, raised_left, raised_right}
use Rattle.tree_laws.specs.Trees.{top, amplitude, put, at_gaps, stands_for}
use Rattle.tree_laws.proofs.Equations.{recoupled, two_h}
use Rattle.tree_laws.proofs.Factor.{Same, top_same, amp_same}
use Rattle.tree_laws.proofs.EntryLemmas.{comb_is, gaps_same_below}
use Rattle.tree_laws.proofs.Keys.{Key, put_off, turned_off, turned_at, turned_to, gaps_turned, gaps_same}
use Rattle.tree_laws.proofs.Whole.{Spread, whole}

module _ {E : Type 0} (c : Symbols E) {K : Held E} (laws : RingLaws c.ring K) (proper : IsProper c) (equations : HasEquations c) (strand x : ℕ → ℕ) where
  abbrev o : E → E → E
  o = c.ring.product

  -- the amplitude of (A B) C and of A (B C), over those of A, B and C
  abbrev left_of : ℕ → ℕ → ℕ → ℕ → ℕ → ℕ → ℕ → ℕ → ℕ → E → E → E → E
  left_of p u y z a b m e d A B C = o (o (c.h p e m z d y) (o (o (c.h p a b y e u) A) B)) C

  abbrev right_of : ℕ → ℕ → ℕ → ℕ → ℕ → ℕ → ℕ → ℕ → ℕ → E → E → E → E
  right_of p u y z a b m f d A B C = o (o (c.h p a f z d u) A) (o (o (c.h u b m z f y) B) C)

  left_is : (p u y z a b m e d : ℕ) (A B C : E) → left_of p u y z a b m e d A B C ≡ o (o (c.h p e m z d y) (c.h p a b y e u)) (o A (o B C))
  left_is p u y z a b m e d A B C = simp (laws.product_assoc, laws.product_comm, S.product_left laws)

  right_is : (p u y z a b m f d : ℕ) (A B C : E) → right_of p u y z a b m f d A B C ≡ o (o (c.h p a f z d u) (c.h u b m z f y)) (o A (o B C))
  right_is p u y z a b m f d A B C = simp (laws.product_assoc, laws.product_comm, S.product_left laws)

  right_by_left : (p u y z a b m f d : ℕ) (A B C : E)
      → right_of p u y z a b m f d A B C ≡ total c.ring c.count (λ e. o (c.h a b m d f e) (left_of p u y z a b m e d A B C))
  right_by_left p u y z a b m f d A B C =
      right_is p u y z a b m f d A B C
      ∙ (ap (λ w. o w (o A (o B C))) (recoupled c laws proper equations p a b m z d u f y)
      ∙ (S.total-product laws c.count _ _
      ∙ S.total_same laws c.count _ _ (λ e _. laws.product_assoc _ _ _ ∙ ap (o (c.h a b m d f e)) (sym (left_is p u y z a b m e d A B C)))))

  left_by_right : (p u y z a b m e d : ℕ) (A B C : E)
      → left_of p u y z a b m e d A B C ≡ total c.ring c.count (λ f. o (c.f a b m d e f) (right_of p u y z a b m f d A B C))
  left_by_right p u y z a b m e d A B C =
      left_is p u y z a b m e d A B C
      ∙ (ap (λ w. o w (o A (o B C))) (two_h c laws proper equations p a b m z y d e u)
      ∙ (S.total-product laws c.count _ _
      ∙ S.total_same laws c.count _ _ (λ f _. laws.product_assoc _ _ _ ∙ ap (o (c.f a b m d e f)) (sym (right_is p u y z a b m f d A B C)))))

  abbrev amp : Outline → Key → ℕ → E
  amp t key i = amplitude c t strand x key i

  module _ (A B C : Outline) (i : ℕ) where
    abbrev k : ℕ
    k = i + size A

    abbrev p : ℕ
    p = k + size B

    assoc_at : i + (size A + size B) ≡ (i + size A) + size B
    assoc_at = omega arith

    assoc_end : (i + size A) + (size B + size C) ≡ ((i + size A) + size B) + size C
    assoc_end = omega arith

    apart : (i + size A) ≡ ((i + size A) + size B) → ⊥
    apart e = omega (arith, size_above B, e)

    amp_left : (key : Key) → amp (on_left A B C) key i
        ≡ left_of (x i) (x k) (x p) (x (p + size C)) (top A strand key i) (top B strand key k) (top C strand key p) (key k) (key p) (amp A key i) (amp B key k) (amp C key p)
    amp_left key = ap (λ m. o (o (c.h (x i) (key (i + size A)) (top C strand key m) (x (m + size C)) (key m) (x m)) (o (o (c.h (x i) (top A strand key i) (top B strand key (i + size A)) (x ((i + size A) + size B)) (key (i + size A)) (x (i + size A))) (amp A key i)) (amp B key (i + size A)))) (amp C key m)) assoc_at

    amp_right : (key : Key) → amp (on_right A B C) key i
        ≡ right_of (x i) (x k) (x p) (x (p + size C)) (top A strand key i) (top B strand key k) (top C strand key p) (key p) (key k) (amp A key i) (amp B key k) (amp C key p)
    amp_right key = ap (λ m. o (o (c.h (x i) (top A strand key i) (key ((i + size A) + size B)) (x m) (key (i + size A)) (x (i + size A))) (amp A key i)) (amp (Branch B C) key (i + size A))) assoc_end

    -- both nodes are off the gaps inside A, B and C
    in_A : (f : Key → Key) → ((key : Key) (g : ℕ) → (g ≡ i + size A → ⊥) → (g ≡ (i + size A) + size B → ⊥) → f key g ≡ key g)
        → (key : Key) → Same i (size A) (f key) key
    in_A f off key g above below = off key g (λ e. omega arith) (λ e. omega arith)

    in_B : (f : Key → Key) → ((key : Key) (g : ℕ) → (g ≡ i + size A → ⊥) → (g ≡ (i + size A) + size B → ⊥) → f key g ≡ key g)
        → (key : Key) → Same (i + size A) (size B) (f key) key
    in_B f off key g above below = off key g (λ e. omega arith) (λ e. omega arith)

    in_C : (f : Key → Key) → ((key : Key) (g : ℕ) → (g ≡ i + size A → ⊥) → (g ≡ (i + size A) + size B → ⊥) → f key g ≡ key g)
        → (key : Key) → Same ((i + size A) + size B) (size C) (f key) key
    in_C f off key g above below = off key g (λ e. omega arith) (λ e. omega arith)

    -- one node, from the left to the right
    node_left : (key : Key)
        → Spread c laws strand x (on_left A B C) (on_right A B C) i key (turned p k key)
        (λ f. c.f (top A strand key i) (top B strand key k) (top C strand key p) (key p) (key k) f)
    node_left key =
        let keys = λ (s : ℕ). turned ((i + size A) + size B) (i + size A) key s in
        let off = λ (s g : ℕ) (a : g ≡ i + size A → ⊥) (b : g ≡ (i + size A) + size B → ⊥). turned_off ((i + size A) + size B) (i + size A) s key g b a in
        let sA = λ (s : ℕ). in_A (λ key. turned ((i + size A) + size B) (i + size A) key s) (λ key g a b. turned_off ((i + size A) + size B) (i + size A) s key g b a) key in
        let sB = λ (s : ℕ). in_B (λ key. turned ((i + size A) + size B) (i + size A) key s) (λ key g a b. turned_off ((i + size A) + size B) (i + size A) s key g b a) key in
        let sC = λ (s : ℕ). in_C (λ key. turned ((i + size A) + size B) (i + size A) key s) (λ key g a b. turned_off ((i + size A) + size B) (i + size A) s key g b a) key in
        let at_p = λ (s : ℕ). turned_at ((i + size A) + size B) (i + size A) s key in
        let at_k = λ (s : ℕ). turned_to ((i + size A) + size B) (i + size A) s key (λ e. apart (sym e)) in
        record {
          sizes = omega arith;
          tops = λ s. ap key assoc_at ∙ sym (at_k s);
          before = λ s g low. off s g (λ e. omega (arith, size_above A)) (λ e. omega (arith, size_above A));
          after = λ s g high. off s g (λ e. omega (arith, size_above B, size_above C)) (λ e. omega (arith, size_above C));
          amps =
              amp_left key
              ∙ (left_by_right (x i) (x k) (x p) (x (p + size C)) (top A strand key i) (top B strand key k) (top C strand key p) (key k) (key p) (amp A key i) (amp B key k) (amp C key p)
              ∙ S.total_same laws c.count _ _ (λ s _. ap (o (c.f (top A strand key i) (top B strand key k) (top C strand key p) (key p) (key k) s))
              (sym (amp_right (keys s)
              ∙ (λ j. right_of (x i) (x k) (x p) (x (p + size C))
              (top_same A strand (keys s) key i (sA s) j) (top_same B strand (keys s) key k (sB s) j) (top_same C strand (keys s) key p (sC s) j)
              (at_p s j) (at_k s j)
              (amp_same c laws A strand x (keys s) key i (sA s) j) (amp_same c laws B strand x (keys s) key k (sB s) j) (amp_same c laws C strand x (keys s) key p (sC s) j))))));
        }

    -- and back
    node_right : (key : Key)
        → Spread c laws strand x (on_right A B C) (on_left A B C) i key (turned k p key)
        (λ e. c.h (top A strand key i) (top B strand key k) (top C strand key p) (key k) (key p) e)
    node_right key =
        let keys = λ (s : ℕ). turned (i + size A) ((i + size A) + size B) key s in
        let off = λ (s g : ℕ) (a : g ≡ i + size A → ⊥) (b : g ≡ (i + size A) + size B → ⊥). turned_off (i + size A) ((i + size A) + size B) s key g a b in
        let sA = λ (s : ℕ). in_A (λ key. turned (i + size A) ((i + size A) + size B) key s) (λ key g a b. turned_off (i + size A) ((i + size A) + size B) s key g a b) key in
        let sB = λ (s : ℕ). in_B (λ key. turned (i + size A) ((i + size A) + size B) key s) (λ key g a b. turned_off (i + size A) ((i + size A) + size B) s key g a b) key in
        let sC = λ (s : ℕ). in_C (λ key. turned (i + size A) ((i + size A) + size B) key s) (λ key g a b. turned_off (i + size A) ((i + size A) + size B) s key g a b) key in
        let at_k = λ (s : ℕ). turned_at (i + size A) ((i + size A) + size B) s key in
        let at_p = λ (s : ℕ). turned_to (i + size A) ((i + size A) + size B) s key apart in
        record {
          sizes = omega arith;
          tops = λ s. sym (ap (keys s) assoc_at ∙ at_p s);
          before = λ s g low. off s g (λ e. omega (arith, size_above A)) (λ e. omega (arith, size_above A));
          after = λ s g high. off s g (λ e. omega (arith, size_above B, size_above C)) (λ e. omega (arith, size_above C));
          amps =
              amp_right key
              ∙ (right_by_left (x i) (x k) (x p) (x (p + size C)) (top A strand key i) (top B strand key k) (top C strand key p) (key p) (key k) (amp A key i) (amp B key k) (amp C key p)
              ∙ S.total_same laws c.count _ _ (λ s _. ap (o (c.h (top A strand key i) (top B strand key k) (top C strand key p) (key k) (key p) s))
              (sym (amp_left (keys s)
              ∙ (λ j. left_of (x i) (x k) (x p) (x (p + size C))
              (top_same A strand (keys s) key i (sA s) j) (top_same B strand (keys s) key k (sB s) j) (top_same C strand (keys s) key p (sC s) j)
              (at_k s j) (at_p s j)
              (amp_same c laws A strand x (keys s) key i (sA s) j) (amp_same c laws B strand x (keys s) key k (sB s) j) (amp_same c laws C strand x (keys s) key p (sC s) j))))));
        }

  -- a coefficient at the labels of A, B and C
  abbrev at_tops : Outline → Outline → Outline → ℕ → (ℕ → ℕ → ℕ → ℕ → ℕ → ℕ → E) → Key → ℕ → ℕ → ℕ → E
  at_tops A B C i g key = g (top A strand key i) (top B strand key (i + size A)) (top C strand key ((i + size A) + size B))

  -- those labels are at neither node
  tops_stay : (A B C : Outline) (i : ℕ) (g : ℕ → ℕ → ℕ → ℕ → ℕ → ℕ → E) (f : Key → Key)
      → ((key : Key) (j : ℕ) → (j ≡ i + size A → ⊥) → (j ≡ (i + size A) + size B → ⊥) → f key j ≡ key j)
      → (key : Key) → at_tops A B C i g (f key) ≡ at_tops A B C i g key
  tops_stay A B C i g f off key j =
      g (top_same A strand (f key) key i (in_A A B C i f off key) j)
      (top_same B strand (f key) key (i + size A) (in_B A B C i f off key) j)
      (top_same C strand (f key) key ((i + size A) + size B) (in_C A B C i f off key) j)

  -- a node that is the left child of its parent is raised, at any depth
  pub raised_left_keeps : (a : Around) (A B C : Outline) (value : Key → E)
      → stands_for c (fill a (on_right A B C)) strand (raised_left c A B C (place a 0) strand value) x ≡ stands_for c (fill a (on_left A B C)) strand value x
  raised_left_keeps a A B C value =
      let i = place a 0 in
      let k = place a 0 + size A in
      let p = (place a 0 + size A) + size B in
      let T = fill a (on_left A B C) in
      let T' = fill a (on_right A B C) in
      let sizes : size (fill a (on_left A B C)) ≡ size (fill a (on_right A B C)) = fill_size a (on_left A B C) (on_right A B C) (omega arith) in
      let fits : place a 0 + size (on_left A B C) ≤ 0 + size (fill a (on_left A B C)) = place_below a (on_left A B C) 0 in
      ap (λ n. at_gaps c (n - 1) (λ key. o (raised_left c A B C i strand value key) (amp T' key 0)) (λ _. 0)) (sym sizes)
      ∙ (gaps_turned c laws (size T - 1) k p value (λ key. amp T' key 0) (at_tops A B C i c.f)
      (omega (arith, size_above A)) (omega (arith, fits, size_above B, size_above C)) (omega (arith, size_above A)) (omega (arith, fits, size_above C))
      (λ e. omega (arith, e, size_above B))
      (λ key s d. tops_stay A B C i c.f (λ key. put p s (put k d key)) (λ key j a b. put_off p s (put k d key) j b ∙ put_off k d key j a) key) (λ _. 0)
      ∙ gaps_same c laws (size T - 1) _ _ (λ key. ap (o (value key)) (sym (whole c laws strand x a _ _ 0 key _ _ (node_left A B C i key)))) (λ _. 0))

  -- a node that is the right child of its parent is raised, at any depth
  pub raised_right_keeps : (a : Around) (A B C : Outline) (value : Key → E)
      → stands_for c (fill a (on_left A B C)) strand (raised_right c A B C (place a 0) strand value) x ≡ stands_for c (fill a (on_right A B C)) strand value x
  raised_right_keeps a A B C value =
      let i = place a 0 in
      let p = place a 0 + size A in
      let k = (place a 0 + size A) + size B in
      let T = fill a (on_right A B C) in
      let T' = fill a (on_left A B C) in
      let sizes : size (fill a (on_right A B C)) ≡ size (fill a (on_left A B C)) = fill_size a (on_right A B C) (on_left A B C) (omega arith) in
      let fits : place a 0 + size (on_right A B C) ≤ 0 + size (fill a (on_right A B C)) = place_below a (on_right A B C) 0 in
      ap (λ n. at_gaps c (n - 1) (λ key. o (raised_right c A B C i strand value key) (amp T' key 0)) (λ _. 0)) (sym sizes)
      ∙ (gaps_turned c laws (size T - 1) k p value (λ key. amp T' key 0) (at_tops A B C i c.h)
      (omega (arith, size_above A)) (omega (arith, fits, size_above C)) (omega (arith, size_above A)) (omega (arith, fits, size_above B, size_above C))
      (λ e. omega (arith, e, size_above B))
      (λ key s d. tops_stay A B C i c.h (λ key. put p s (put k d key)) (λ key j a b. put_off p s (put k d key) j a ∙ put_off k d key j b) key) (λ _. 0)
      ∙ gaps_same c laws (size T - 1) _ _ (λ key. ap (o (value key)) (sym (whole c laws strand x a _ _ 0 key _ _ (node_right A B C i key)))) (λ _. 0))

-- the same of the entries of a state
module _ {E : Type 0} (c : Symbols E) {K : Held E} (laws : RingLaws c.ring K) (proper : IsProper c) (equations : HasEquations c) where
  pub raising_left_keeps : RaisingLeftKeeps c
  raising_left_keeps a A B C strand x old new keys keys' is =
      comb_is c laws (fill a (on_right A B C)) strand new x keys'
      ∙ (gaps_same_below c laws (size (fill a (on_right A B C)) - 1) _ _ (λ key low. ap (λ y. c.ring.product y (amplitude c (fill a (on_right A B C)) strand x key 0)) (is key low)) (λ _. 0)
      ∙ (raised_left_keeps c laws proper equations strand x a A B C (values c.ring (size (fill a (on_left A B C)) - 1) old)
      ∙ sym (comb_is c laws (fill a (on_left A B C)) strand old x keys)))

  pub raising_right_keeps : RaisingRightKeeps c
  raising_right_keeps a A B C strand x old new keys keys' is =
      comb_is c laws (fill a (on_left A B C)) strand new x keys'
      ∙ (gaps_same_below c laws (size (fill a (on_left A B C)) - 1) _ _ (λ key low. ap (λ y. c.ring.product y (amplitude c (fill a (on_left A B C)) strand x key 0)) (is key low)) (λ _. 0)
      ∙ (raised_right_keeps c laws proper equations strand x a A B C (values c.ring (size (fill a (on_right A B C)) - 1) old)
      ∙ sym (comb_is c laws (fill a (on_right A B C)) strand old x keys)))
