-- A right child is raised, in the links as in the tree.
use Rattle.std.proofs.Common.{◌≡◌, ◌≢◌, ℕ, ◌+◌, ◌<◌, ◌≤◌, ap, ◌∙◌, subst, inl, inr, arith}
use Rattle.tree_shapes.specs.Outlines.{Outline, Branch, size}
use Rattle.tree_shapes.specs.Contexts.{Around, Hole, OnLeft, OnRight, fill, place, on_left, on_right}
use Rattle.tree_shapes.proofs.ContextLemmas.{size_above, fill_size, place_above, place_below}
use Rattle.tree_shapes.proofs.TurnLinks.{linked_same, linked_lifted, up_in, up_range, up_high, up_low, off_below, off_above}
use Rattle.tree_shapes.specs.Links.{Rows, link_to, Linked, TurnsLeft}

-- A right child is raised.
module _ (A B C : Outline) (old new : Rows) where
  abbrev T : Outline
  T = on_right A B C

  abbrev T' : Outline
  T' = on_left A B C

  sizes : size T ≡ size T'
  sizes = omega arith

  abbrev Turns : ℕ → ℕ → Type 0
  Turns j g = TurnsLeft ((j + size A) + size B) (j + size A) (link_to B (j + size A)) g old new

  hole_left : (i up : ℕ) → ((g : ℕ) → i < g → g < i + size T → g ≢ up) → Turns i up → Linked old T i up → Linked new T' i up
  hole_left i up out t is =
      let p = i + size A in
      let k = (i + size A) + size B in
      let assoc : (i + size A) + size B ≡ i + (size A + size B) = omega arith in
      let inner = is.4 in
      subst (λ (m : ℕ). (new.left m ≡ i + size A) × (new.right m ≡ link_to C m) × (new.parent m ≡ up) × Linked new (Branch A B) i m × Linked new C m m) assoc (
        t.left_k,
        t.right_k ∙ inner.1,
        t.parent_k,
        (
          t.left_p ∙ is.0,
          t.right_p,
          t.parent_p,
          linked_same A i p old new (record {
            left = λ g a b. t.other_left g (λ e. omega (arith, e)) (λ e. omega (arith, e)) (out g a (omega arith));
            right = λ g a b. t.other_right g (λ e. omega (arith, e)) (λ e. omega (arith, e)) (out g a (omega arith));
            parent = λ g a b. t.other_parent g (λ e. omega (arith, e)) (λ e. omega (arith, e)) (off_below B p g (omega arith) (omega arith));
          }) is.3,
          linked_lifted B p k p old new
              (λ g a b. t.other_left g (λ e. omega (arith, e)) (λ e. omega (arith, e)) (out g (omega arith) (omega arith)))
              (λ g a b. t.other_right g (λ e. omega (arith, e)) (λ e. omega (arith, e)) (out g (omega arith) (omega arith)))
              (λ g a b off. t.other_parent g (λ e. omega (arith, e)) (λ e. omega (arith, e)) off)
              t.parent_b inner.3,
        ),
        linked_same C k k old new (record {
          left = λ g a b. t.other_left g (λ e. omega (arith, e)) (λ e. omega (arith, e)) (out g (omega arith) (omega arith));
          right = λ g a b. t.other_right g (λ e. omega (arith, e)) (λ e. omega (arith, e)) (out g (omega arith) (omega arith));
          parent = λ g a b. t.other_parent g (λ e. omega (arith, e)) (λ e. omega (arith, e)) (off_above B p g (omega arith) (omega arith));
        }) inner.4,
      )

  -- the link from a node above to what is on its left
  left_link : (a : Around) (i : ℕ) → Turns (place a i) (up_in a T i (i + size (fill a T))) → old.left (i + size (fill a T)) ≡ link_to (fill a T) i → new.left (i + size (fill a T)) ≡ link_to (fill a T') i
  left_link Hole i t h = let assoc : (i + size A) + size B ≡ i + (size A + size B) = omega arith in t.above_left (omega (arith, size_above C)) ∙ assoc
  left_link (OnLeft a r) i t h =
      t.other_left (i + (size (fill a T) + size r)) (λ e. omega (arith, e, place_below a T i, size_above r, size_above C)) (λ e. omega (arith, e, place_below a T i, size_above r, size_above C)) (λ e. omega (arith, e, up_high a T i (i + size (fill a T)) (omega arith), size_above r))
      ∙ (h ∙ ap (λ n. i + n) (fill_size a T T' sizes))
  left_link (OnRight l a) i t h =
      t.other_left (i + (size l + size (fill a T))) (λ e. omega (arith, e, place_below a T (i + size l), size_above C)) (λ e. omega (arith, e, place_below a T (i + size l), size_above C)) (λ e. elim (up_range a T (i + size l) (i + size l)) [ inl f ↦ omega (arith, e, f, size_above (fill a T)) | inr f ↦ omega (arith, e, f.1) ]) ∙ h

  -- the link of that node on its right stays
  right_same : (a : Around) (r : Outline) (i : ℕ) → Turns (place a i) (up_in a T i (i + size (fill a T))) → new.right (i + size (fill a T)) ≡ old.right (i + size (fill a T))
  right_same Hole r i t = t.above_left_right (omega (arith, size_above C))
  right_same (OnLeft a r') r i t =
      t.other_right (i + (size (fill a T) + size r')) (λ e. omega (arith, e, place_below a T i, size_above r', size_above C)) (λ e. omega (arith, e, place_below a T i, size_above r', size_above C)) (λ e. omega (arith, e, up_high a T i (i + size (fill a T)) (omega arith), size_above r'))
  right_same (OnRight l a) r i t =
      t.other_right (i + (size l + size (fill a T))) (λ e. omega (arith, e, place_below a T (i + size l), size_above C)) (λ e. omega (arith, e, place_below a T (i + size l), size_above C))
      (λ e. elim (up_range a T (i + size l) (i + size l)) [ inl f ↦ omega (arith, e, f, size_above (fill a T)) | inr f ↦ omega (arith, e, f.1) ])

  -- the links from a node above to what is on its right, and on its left
  pub right_link : (a : Around) (m : ℕ) → Turns (place a m) (up_in a T m m) → old.right m ≡ link_to (fill a T) m → new.right m ≡ link_to (fill a T') m
  right_link Hole m t h = let assoc : (m + size A) + size B ≡ m + (size A + size B) = omega arith in t.above_right (omega (arith, size_above A)) ∙ assoc
  right_link (OnLeft a r) m t h =
      t.other_right m (λ e. omega (arith, e, place_above a m, size_above A)) (λ e. omega (arith, e, place_above a m, size_above A))
      (λ e. elim (up_range a T m (m + size (fill a T))) [ inl f ↦ omega (arith, e, f, size_above (fill a T)) | inr f ↦ omega (arith, e, f.0) ])
      ∙ (h ∙ ap (λ n. m + n) (fill_size a T T' sizes))
  right_link (OnRight l a) m t h =
      t.other_right m (λ e. omega (arith, e, place_above a (m + size l), size_above A, size_above l)) (λ e. omega (arith, e, place_above a (m + size l), size_above A, size_above l))
      (λ e. omega (arith, e, up_low a T (m + size l), size_above l)) ∙ h

  left_same : (a : Around) (m : ℕ) → Turns (place a m) (up_in a T m m) → new.left m ≡ old.left m
  left_same Hole m t = t.above_right_left (omega (arith, size_above A))
  left_same (OnLeft a r) m t =
      t.other_left m (λ e. omega (arith, e, place_above a m, size_above A)) (λ e. omega (arith, e, place_above a m, size_above A))
      (λ e. elim (up_range a T m (m + size (fill a T))) [ inl f ↦ omega (arith, e, f, size_above (fill a T)) | inr f ↦ omega (arith, e, f.0) ])
  left_same (OnRight l a) m t =
      t.other_left m (λ e. omega (arith, e, place_above a (m + size l), size_above A, size_above l)) (λ e. omega (arith, e, place_above a (m + size l), size_above A, size_above l))
      (λ e. omega (arith, e, up_low a T (m + size l), size_above l))

  -- in a tree
  pub turned_left : (a : Around) (i up : ℕ) → ((g : ℕ) → i < g → g < i + size (fill a T) → g ≢ up) → Turns (place a i) (up_in a T i up) → Linked old (fill a T) i up → Linked new (fill a T') i up
  turned_left Hole i up out t is = hole_left i up out t is
  turned_left (OnLeft a r) i up out t is =
      let m = i + size (fill a T) in
      let below : place a i + size T ≤ i + size (fill a T) = place_below a T i in
      let high : up_in a T i m ≤ m = up_high a T i m (omega arith) in
      let moved : i + size (fill a T) ≡ i + size (fill a T') = ap (λ n. i + n) (fill_size a T T' sizes) in
      subst (λ (n : ℕ). (new.left n ≡ link_to (fill a T') i) × (new.right n ≡ link_to r n) × (new.parent n ≡ up) × Linked new (fill a T') i n × Linked new r n n) moved (
        left_link a i t is.0,
        right_same a r i t ∙ is.1,
        t.other_parent m (λ e. omega (arith, e, size_above B, size_above C)) (λ e. omega (arith, e, size_above C)) (off_above B (place a i + size A) m (omega (arith, size_above A)) (omega arith)) ∙ is.2,
        turned_left a i m (λ g above b e. omega (arith, e)) t is.3,
        linked_same r m m old new (record {
          left = λ g above b. t.other_left g (λ e. omega (arith, e)) (λ e. omega (arith, e)) (λ e. omega (arith, e));
          right = λ g above b. t.other_right g (λ e. omega (arith, e)) (λ e. omega (arith, e)) (λ e. omega (arith, e));
          parent = λ g above b. t.other_parent g (λ e. omega (arith, e)) (λ e. omega (arith, e)) (off_above B (place a i + size A) g (omega arith) (omega arith));
        }) is.4,
      )
  turned_left (OnRight l a) i up out t is =
      let m = i + size l in
      let above_m : m ≤ place a m = place_above a m in
      let low : m ≤ up_in a T m m = up_low a T m in (
        left_same a m t ∙ is.0,
        right_link a m t is.1,
        t.other_parent m (λ e. omega (arith, e, size_above A)) (λ e. omega (arith, e, size_above A)) (off_below B (place a m + size A) m (omega (arith, size_above l)) (omega arith)) ∙ is.2,
        linked_same l i m old new (record {
          left = λ g above b. t.other_left g (λ e. omega (arith, e)) (λ e. omega (arith, e)) (λ e. omega (arith, e));
          right = λ g above b. t.other_right g (λ e. omega (arith, e)) (λ e. omega (arith, e)) (λ e. omega (arith, e));
          parent = λ g above b. t.other_parent g (λ e. omega (arith, e)) (λ e. omega (arith, e)) (off_below B (place a m + size A) g (omega arith) (omega arith));
        }) is.3,
        turned_left a m m (λ g above b e. omega (arith, e)) t is.4,
      )
