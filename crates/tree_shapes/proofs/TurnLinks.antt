-- Rotations of links are those of trees.
use Rattle.std.proofs.Common.{◌≡◌, ◌≢◌, ℕ, zero, suc, ◌+◌, ◌<◌, ◌≤◌, refl, ap, ◌∙◌, subst, ◌⊎◌, inl, inr, arith}
use Rattle.std.specs.Prelude.{◌==◌}
use Rattle.std.proofs.lemmas.Bool.{cond-false}
use Rattle.tree_shapes.proofs.TestLemmas as S
use Rattle.tree_shapes.specs.Outlines.{Outline, Tip, Branch, size}
use Rattle.tree_shapes.specs.Contexts.{Around, Hole, OnLeft, OnRight, fill, place, on_left, on_right}
use Rattle.tree_shapes.proofs.ContextLemmas.{size_above, fill_size, place_above, place_below}
use Rattle.tree_shapes.specs.Links.{Rows, link_to, Linked, grown, TurnsRight}

-- the links of these gaps are the same
pub record Same (i n : ℕ) (old new : Rows) : Type 0 where
  pub left : (g : ℕ) → i < g → g < i + n → new.left g ≡ old.left g
  pub right : (g : ℕ) → i < g → g < i + n → new.right g ≡ old.right g
  pub parent : (g : ℕ) → i < g → g < i + n → new.parent g ≡ old.parent g

part_left : (i n m : ℕ) (old new : Rows) → 0 < m → Same i (n + m) old new → Same i n old new
part_left i n m old new some h = record {
  left = λ g a b. h.left g a (omega arith);
  right = λ g a b. h.right g a (omega arith);
  parent = λ g a b. h.parent g a (omega arith);
}

part_right : (i n m : ℕ) (old new : Rows) → 0 < n → Same i (n + m) old new → Same (i + n) m old new
part_right i n m old new some h = record {
  left = λ g a b. h.left g (omega arith) (omega arith);
  right = λ g a b. h.right g (omega arith) (omega arith);
  parent = λ g a b. h.parent g (omega arith) (omega arith);
}

pub linked_same : (t : Outline) (i up : ℕ) (old new : Rows) → Same i (size t) old new → Linked old t i up → Linked new t i up
linked_same Tip i up old new h is = tt
linked_same (Branch l r) i up old new h is =
    let low : i < i + size l = omega (arith, size_above l) in
    let high : i + size l < i + (size l + size r) = omega (arith, size_above r) in (
      h.left (i + size l) low high ∙ is.0,
      h.right (i + size l) low high ∙ is.1,
      h.parent (i + size l) low high ∙ is.2,
      linked_same l i (i + size l) old new (part_left i (size l) (size r) old new (size_above r) h) is.3,
      linked_same r (i + size l) (i + size l) old new (part_right i (size l) (size r) old new (size_above l) h) is.4,
    )

-- only the parent of the top is another
pub linked_lifted : (t : Outline) (i up over : ℕ) (old new : Rows)
    → ((g : ℕ) → i < g → g < i + size t → new.left g ≡ old.left g) → ((g : ℕ) → i < g → g < i + size t → new.right g ≡ old.right g)
    → ((g : ℕ) → i < g → g < i + size t → g ≢ link_to t i → new.parent g ≡ old.parent g)
    → (link_to t i ≢ 0 → new.parent (link_to t i) ≡ over) → Linked old t i up → Linked new t i over
linked_lifted Tip i up over old new left right parent top is = tt
linked_lifted (Branch l r) i up over old new left right parent top is =
    let low : i < i + size l = omega (arith, size_above l) in
    let high : i + size l < i + (size l + size r) = omega (arith, size_above r) in (
      left (i + size l) low high ∙ is.0,
      right (i + size l) low high ∙ is.1,
      top (λ e. omega (arith, e, size_above l)),
      linked_same l i (i + size l) old new (record {
        left = λ g a b. left g a (omega arith);
        right = λ g a b. right g a (omega arith);
        parent = λ g a b. parent g a (omega arith) (λ e. omega (arith, e));
      }) is.3,
      linked_same r (i + size l) (i + size l) old new (record {
        left = λ g a b. left g (omega (arith, size_above l)) (omega arith);
        right = λ g a b. right g (omega (arith, size_above l)) (omega arith);
        parent = λ g a b. parent g (omega (arith, size_above l)) (omega arith) (λ e. omega (arith, e));
      }) is.4,
    )

-- the tree that grows from the links of a tree is this tree
pub grown_is : (t : Outline) (i up n : ℕ) (rows : Rows) → size t ≤ n → Linked rows t i up → grown rows n (link_to t i) ≡ t
grown_is Tip i up zero rows h is = refl
grown_is Tip i up (suc n) rows h is = refl
grown_is (Branch l r) i up zero rows h is = absurd (omega (arith, size_above l))
grown_is (Branch l r) i up (suc n) rows h is =
    cond-false (i + size l == 0) _ _ (S.test_false (i + size l) 0 (λ e. omega (arith, e, size_above l)))
    ∙ (λ j. Branch
    ((ap (grown rows n) is.0 ∙ grown_is l i (i + size l) n rows (omega (arith, size_above r)) is.3) j)
    ((ap (grown rows n) is.1 ∙ grown_is r (i + size l) (i + size l) n rows (omega (arith, size_above l)) is.4) j))

-- the parent of what fills the hole
abbrev pub up_in : Around → Outline → ℕ → ℕ → ℕ
up_in Hole t i up = up
up_in (OnLeft a r) t i up = up_in a t i (i + size (fill a t))
up_in (OnRight l a) t i up = up_in a t (i + size l) (i + size l)

-- the parent of what fills a hole below a node is a node of the tree
pub up_range : (a : Around) (t : Outline) (i up : ℕ) → (up_in a t i up ≡ up) ⊎ ((i < up_in a t i up) × (up_in a t i up < i + size (fill a t)))
up_range Hole t i up = inl refl
up_range (OnLeft a r) t i up =
    elim (up_range a t i (i + size (fill a t))) [
      | inl e ↦ inr (omega (arith, e, size_above (fill a t)), omega (arith, e, size_above r))
      | inr h ↦ inr (h.0, omega (arith, h.1))
    ]
up_range (OnRight l a) t i up =
    elim (up_range a t (i + size l) (i + size l)) [
      | inl e ↦ inr (omega (arith, e, size_above l), omega (arith, e, size_above (fill a t)))
      | inr h ↦ inr (omega (arith, h.0), omega (arith, h.1))
    ]

pub up_high : (a : Around) (t : Outline) (i m : ℕ) → i + size (fill a t) ≤ m → up_in a t i (i + size (fill a t)) ≤ m
up_high a t i m h = elim (up_range a t i (i + size (fill a t))) [ inl e ↦ omega (arith, e) | inr r ↦ omega (arith, r.1) ]

pub up_low : (a : Around) (t : Outline) (i : ℕ) → i ≤ up_in a t i i
up_low a t i = elim (up_range a t i i) [ inl e ↦ omega (arith, e) | inr r ↦ omega (arith, r.0) ]

pub link_range : (t : Outline) (i : ℕ) → (link_to t i ≡ 0) ⊎ ((i < link_to t i) × (link_to t i < i + size t))
link_range Tip i = inl refl
link_range (Branch l r) i = inr (omega (arith, size_above l), omega (arith, size_above r))

-- a gap below where a tree begins, or behind it, isn't its top's
pub off_below : (t : Outline) (i g : ℕ) → 0 < g → g ≤ i → g ≢ link_to t i
off_below t i g some low e = elim (link_range t i) [ inl z ↦ omega (arith, e, z) | inr h ↦ omega (arith, e, h.0) ]

pub off_above : (t : Outline) (i g : ℕ) → 0 < g → i + size t ≤ g → g ≢ link_to t i
off_above t i g some high e = elim (link_range t i) [ inl z ↦ omega (arith, e, z) | inr h ↦ omega (arith, e, h.1) ]

-- A left child is raised.
module _ (A B C : Outline) (old new : Rows) where
  abbrev T : Outline
  T = on_left A B C

  abbrev T' : Outline
  T' = on_right A B C

  sizes : size T ≡ size T'
  sizes = omega arith

  abbrev Turns : ℕ → ℕ → Type 0
  Turns j g = TurnsRight (j + size A) ((j + size A) + size B) (link_to B (j + size A)) g old new

  hole_right : (i up : ℕ) → ((g : ℕ) → i < g → g < i + size T → g ≢ up) → Turns i up → Linked old T i up → Linked new T' i up
  hole_right i up out t is =
      let k = i + size A in
      let p = (i + size A) + size B in
      let assoc : i + (size A + size B) ≡ (i + size A) + size B = omega arith in
      let whole = subst (λ (m : ℕ). (old.left m ≡ i + size A) × (old.right m ≡ link_to C m) × (old.parent m ≡ up) × Linked old (Branch A B) i m × Linked old C m m) assoc is in
      let inner = whole.3 in (
        t.left_k ∙ inner.0,
        t.right_k,
        t.parent_k,
        linked_same A i k old new (record {
          left = λ g a b. t.other_left g (λ e. omega (arith, e)) (λ e. omega (arith, e)) (out g a (omega arith));
          right = λ g a b. t.other_right g (λ e. omega (arith, e)) (λ e. omega (arith, e)) (out g a (omega arith));
          parent = λ g a b. t.other_parent g (λ e. omega (arith, e)) (λ e. omega (arith, e)) (off_below B k g (omega arith) (omega arith));
        }) inner.3,
        (
          t.left_p,
          t.right_p ∙ whole.1,
          t.parent_p,
          linked_lifted B k k p old new
              (λ g a b. t.other_left g (λ e. omega (arith, e)) (λ e. omega (arith, e)) (out g (omega arith) (omega arith)))
              (λ g a b. t.other_right g (λ e. omega (arith, e)) (λ e. omega (arith, e)) (out g (omega arith) (omega arith)))
              (λ g a b off. t.other_parent g (λ e. omega (arith, e)) (λ e. omega (arith, e)) off)
              t.parent_b inner.4,
          linked_same C p p old new (record {
            left = λ g a b. t.other_left g (λ e. omega (arith, e)) (λ e. omega (arith, e)) (out g (omega arith) (omega arith));
            right = λ g a b. t.other_right g (λ e. omega (arith, e)) (λ e. omega (arith, e)) (out g (omega arith) (omega arith));
            parent = λ g a b. t.other_parent g (λ e. omega (arith, e)) (λ e. omega (arith, e)) (off_above B k g (omega arith) (omega arith));
          }) whole.4,
        ),
      )

  -- the link from a node above to what is on its left
  left_link : (a : Around) (i : ℕ) → Turns (place a i) (up_in a T i (i + size (fill a T))) → old.left (i + size (fill a T)) ≡ link_to (fill a T) i → new.left (i + size (fill a T)) ≡ link_to (fill a T') i
  left_link Hole i t h = t.above_left (omega (arith, size_above C))
  left_link (OnLeft a r) i t h =
      t.other_left (i + (size (fill a T) + size r)) (λ e. omega (arith, e, place_below a T i, size_above r, size_above C)) (λ e. omega (arith, e, place_below a T i, size_above r, size_above C)) (λ e. omega (arith, e, up_high a T i (i + size (fill a T)) (omega arith), size_above r))
      ∙ (h ∙ ap (λ n. i + n) (fill_size a T T' sizes))
  left_link (OnRight l a) i t h =
      t.other_left (i + (size l + size (fill a T))) (λ e. omega (arith, e, place_below a T (i + size l), size_above C)) (λ e. omega (arith, e, place_below a T (i + size l), size_above C)) (λ e. elim (up_range a T (i + size l) (i + size l)) [ inl f ↦ omega (arith, e, f, size_above (fill a T)) | inr f ↦ omega (arith, e, f.1) ]) ∙ h

  -- the link of that node on its right stays
  right_same : (a : Around) (r : Outline) (i : ℕ) → Turns (place a i) (up_in a T i (i + size (fill a T))) → new.right (i + size (fill a T)) ≡ old.right (i + size (fill a T))
  right_same Hole r i t = t.above_left_right (omega (arith, size_above C))
  right_same (OnLeft a r') r i t =
      t.other_right (i + (size (fill a T) + size r')) (λ e. omega (arith, e, place_below a T i, size_above r', size_above C)) (λ e. omega (arith, e, place_below a T i, size_above r', size_above C)) (λ e. omega (arith, e, up_high a T i (i + size (fill a T)) (omega arith), size_above r'))
  right_same (OnRight l a) r i t =
      t.other_right (i + (size l + size (fill a T))) (λ e. omega (arith, e, place_below a T (i + size l), size_above C)) (λ e. omega (arith, e, place_below a T (i + size l), size_above C))
      (λ e. elim (up_range a T (i + size l) (i + size l)) [ inl f ↦ omega (arith, e, f, size_above (fill a T)) | inr f ↦ omega (arith, e, f.1) ])

  -- the links from a node above to what is on its right, and on its left
  pub right_link : (a : Around) (m : ℕ) → Turns (place a m) (up_in a T m m) → old.right m ≡ link_to (fill a T) m → new.right m ≡ link_to (fill a T') m
  right_link Hole m t h = t.above_right (omega (arith, size_above A))
  right_link (OnLeft a r) m t h =
      t.other_right m (λ e. omega (arith, e, place_above a m, size_above A)) (λ e. omega (arith, e, place_above a m, size_above A))
      (λ e. elim (up_range a T m (m + size (fill a T))) [ inl f ↦ omega (arith, e, f, size_above (fill a T)) | inr f ↦ omega (arith, e, f.0) ])
      ∙ (h ∙ ap (λ n. m + n) (fill_size a T T' sizes))
  right_link (OnRight l a) m t h =
      t.other_right m (λ e. omega (arith, e, place_above a (m + size l), size_above A, size_above l)) (λ e. omega (arith, e, place_above a (m + size l), size_above A, size_above l))
      (λ e. omega (arith, e, up_low a T (m + size l), size_above l)) ∙ h

  left_same : (a : Around) (m : ℕ) → Turns (place a m) (up_in a T m m) → new.left m ≡ old.left m
  left_same Hole m t = t.above_right_left (omega (arith, size_above A))
  left_same (OnLeft a r) m t =
      t.other_left m (λ e. omega (arith, e, place_above a m, size_above A)) (λ e. omega (arith, e, place_above a m, size_above A))
      (λ e. elim (up_range a T m (m + size (fill a T))) [ inl f ↦ omega (arith, e, f, size_above (fill a T)) | inr f ↦ omega (arith, e, f.0) ])
  left_same (OnRight l a) m t =
      t.other_left m (λ e. omega (arith, e, place_above a (m + size l), size_above A, size_above l)) (λ e. omega (arith, e, place_above a (m + size l), size_above A, size_above l))
      (λ e. omega (arith, e, up_low a T (m + size l), size_above l))

  -- in a tree
  pub turned_right : (a : Around) (i up : ℕ) → ((g : ℕ) → i < g → g < i + size (fill a T) → g ≢ up) → Turns (place a i) (up_in a T i up) → Linked old (fill a T) i up → Linked new (fill a T') i up
  turned_right Hole i up out t is = hole_right i up out t is
  turned_right (OnLeft a r) i up out t is =
      let m = i + size (fill a T) in
      let below : place a i + size T ≤ i + size (fill a T) = place_below a T i in
      let high : up_in a T i m ≤ m = up_high a T i m (omega arith) in
      let moved : i + size (fill a T) ≡ i + size (fill a T') = ap (λ n. i + n) (fill_size a T T' sizes) in
      subst (λ (n : ℕ). (new.left n ≡ link_to (fill a T') i) × (new.right n ≡ link_to r n) × (new.parent n ≡ up) × Linked new (fill a T') i n × Linked new r n n) moved (
        left_link a i t is.0,
        right_same a r i t ∙ is.1,
        t.other_parent m (λ e. omega (arith, e, size_above B, size_above C)) (λ e. omega (arith, e, size_above C)) (off_above B (place a i + size A) m (omega (arith, size_above A)) (omega arith)) ∙ is.2,
        turned_right a i m (λ g above b e. omega (arith, e)) t is.3,
        linked_same r m m old new (record {
          left = λ g above b. t.other_left g (λ e. omega (arith, e)) (λ e. omega (arith, e)) (λ e. omega (arith, e));
          right = λ g above b. t.other_right g (λ e. omega (arith, e)) (λ e. omega (arith, e)) (λ e. omega (arith, e));
          parent = λ g above b. t.other_parent g (λ e. omega (arith, e)) (λ e. omega (arith, e)) (off_above B (place a i + size A) g (omega arith) (omega arith));
        }) is.4,
      )
  turned_right (OnRight l a) i up out t is =
      let m = i + size l in
      let above_m : m ≤ place a m = place_above a m in
      let low : m ≤ up_in a T m m = up_low a T m in (
        left_same a m t ∙ is.0,
        right_link a m t is.1,
        t.other_parent m (λ e. omega (arith, e, size_above A)) (λ e. omega (arith, e, size_above A)) (off_below B (place a m + size A) m (omega (arith, size_above l)) (omega arith)) ∙ is.2,
        linked_same l i m old new (record {
          left = λ g above b. t.other_left g (λ e. omega (arith, e)) (λ e. omega (arith, e)) (λ e. omega (arith, e));
          right = λ g above b. t.other_right g (λ e. omega (arith, e)) (λ e. omega (arith, e)) (λ e. omega (arith, e));
          parent = λ g above b. t.other_parent g (λ e. omega (arith, e)) (λ e. omega (arith, e)) (off_below B (place a m + size A) g (omega arith) (omega arith));
        }) is.3,
        turned_right a m m (λ g above b e. omega (arith, e)) t is.4,
      )
