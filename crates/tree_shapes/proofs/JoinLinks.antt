-- The links of a tree from those of its children.
use Rattle.std.proofs.Common.{◌≡◌, ◌≢◌, ℕ, ◌+◌, ◌<◌, ◌≤◌, List, length, get_or, set, slice_index, get_or-set_same, get_or-set_other, refl, ap, sym, ◌∙◌, subst, ◌⊎◌, inl, inr, arith}
use Rattle.tree_shapes.specs.declared.limits.TheConstants.{STRAND_LIMIT}
use Rattle.tree_shapes.specs.Labelled.{Labelled, Strand, Joined}
use Rattle.tree_shapes.specs.Labelled as L
use Rattle.tree_shapes.specs.Views.{labelled}
use Rattle.tree_shapes.specs.declared.tree.Fork.{Fork}
use Rattle.tree_shapes.specs.Outlines.{outline_of, Outline, Tip, Branch, size}
use Rattle.tree_shapes.proofs.ContextLemmas.{size_above}
use Rattle.tree_shapes.specs.Links.{Rows, rows_of, link_to, Linked, AreLinks, Joins, Sets}
use Rattle.tree_shapes.proofs.TurnLinks.{Same, linked_same, linked_lifted, link_range, off_below, off_above}

pub outline_size : (t : Labelled) → size (outline_of t) ≡ L.size t
outline_size (Strand a) = refl
outline_size (Joined l r q) = λ j. outline_size l j + outline_size r j

-- a tree with a node, by the node
pub tree_is : (whole : Labelled) (node f g : Fork) → whole ≡ Joined (labelled node.left) (labelled node.right) node.label → f ≡ node → g ≡ node
    → whole ≡ Joined (labelled f.left) (labelled g.right) node.label
tree_is whole node f g is ef eg = is ∙ (λ j. Joined (left_of (sym ef j)) (right_of (sym eg j)) node.label)
  where
    left_of : Fork → Labelled
    left_of h = labelled h.left

    right_of : Fork → Labelled
    right_of h = labelled h.right

-- a node over two trees that are linked
pub joined : (l r : Outline) (i a b : ℕ) (first second new : Rows) → a ≡ link_to l i → b ≡ link_to r (i + size l)
    → Linked first l i (first.parent (link_to l i)) → Same i (size l) first second
    → Linked second r (i + size l) (second.parent (link_to r (i + size l)))
    → Joins (i + size l) a b second new → Linked new (Branch l r) i (new.parent (i + size l))
joined l r i a b first second new ea eb is_l same is_r j =
    let m = i + size l in
    let off_a : (g : ℕ) → g ≢ link_to l i → g ≢ a = λ g off e. off (e ∙ ea) in
    let off_b : (g : ℕ) → g ≢ link_to r m → g ≢ b = λ g off e. off (e ∙ eb) in (
      j.left_here ∙ ea,
      j.right_here ∙ eb,
      refl,
      linked_lifted l i (first.parent (link_to l i)) m second new
          (λ g above below. j.left_off g (λ e. omega (arith, e)))
          (λ g above below. j.right_off g (λ e. omega (arith, e)))
          (λ g above below off. j.parent_off g (off_a g off) (off_b g (off_below r m g (omega arith) (omega arith))))
          (λ some. ap new.parent (sym ea) ∙ j.parent_a (λ e. some (sym ea ∙ e)))
          (linked_same l i (first.parent (link_to l i)) first second same is_l),
      linked_lifted r m (second.parent (link_to r m)) m second new
          (λ g above below. j.left_off g (λ e. omega (arith, e)))
          (λ g above below. j.right_off g (λ e. omega (arith, e)))
          (λ g above below off. j.parent_off g (off_a g (off_above l i g (omega arith) (omega arith))) (off_b g off))
          (λ some. ap new.parent (sym eb) ∙ j.parent_b (λ e. some (sym eb ∙ e))) is_r,
    )

-- what is linked once the top has its place
pub whole : (t : Outline) (n up : ℕ) (old new : Rows) → Linked old t 0 up → ((g : ℕ) → new.left g ≡ old.left g) → ((g : ℕ) → 0 < g → new.right g ≡ old.right g)
    → new.right 0 ≡ link_to t 0 → ((g : ℕ) → g ≢ link_to t 0 → new.parent g ≡ old.parent g) → new.parent (link_to t 0) ≡ 0 → size t ≡ n → AreLinks n new t
whole t n up old new is left right top parent none leaves = record {
  top = top;
  linked = linked_lifted t 0 up 0 old new (λ g above below. left g) (λ g above below. right g above) (λ g above below off. parent g off) (λ some. none) is;
  leaves = leaves;
}

pub joined_at : (l r : Outline) (i gap a b : ℕ) (first second new : Rows) → gap ≡ i + size l → a ≡ link_to l i → b ≡ link_to r gap
    → Linked first l i (first.parent (link_to l i)) → Same i (size l) first second
    → Linked second r gap (second.parent (link_to r gap))
    → Joins gap a b second new → Linked new (Branch l r) i (new.parent (i + size l))
joined_at l r i gap a b first second new e ea eb is_l same is_r j =
    joined l r i a b first second new ea (eb ∙ ap (link_to r) e) is_l same
    (subst (λ (m : ℕ). Linked second r m (second.parent (link_to r m))) e is_r) (subst (λ (m : ℕ). Joins m a b second new) e j)

-- a gap outside a tree is no gap of a node in it
outside_link : (t : Outline) (i g : ℕ) → 0 < g → (g ≤ i) ⊎ (i + size t ≤ g) → g ≢ link_to t i
outside_link t i g some (inl low) = off_below t i g some low
outside_link t i g some (inr high) = off_above t i g some high

-- a strand has no links
pub sets_none : (i : ℕ) (rows : Rows) → Sets Tip i 0 rows rows
sets_none i rows = record { top_is = refl; linked = tt; left_off = λ g out. refl; right_off = λ g out. refl; parent_off = λ g some out. refl }

-- two trees side by side, then their node
pub sets_both : (l r : Outline) (i gap a b : ℕ) (old first second new : Rows) → gap ≡ i + size l → Sets l i a old first → Sets r gap b first second
    → Joins gap a b second new → Sets (Branch l r) i gap old new
sets_both l r i gap a b old first second new at h k j =
    let some_l : 0 < size l = size_above l in
    let some_r : 0 < size r = size_above r in
    let off : (g : ℕ) → (g ≤ i) ⊎ (i + (size l + size r) ≤ g) → g ≢ gap = λ g out e. elim out [ inl low ↦ omega (arith, e, low) | inr high ↦ omega (arith, e, high) ] in
    let out_l : (g : ℕ) → (g ≤ i) ⊎ (i + (size l + size r) ≤ g) → (g ≤ i) ⊎ (i + size l ≤ g) = λ g out. elim out [ inl low ↦ inl low | inr high ↦ inr (omega (arith, high)) ] in
    let out_r : (g : ℕ) → (g ≤ i) ⊎ (i + (size l + size r) ≤ g) → (g ≤ gap) ⊎ (gap + size r ≤ g) = λ g out. elim out [ inl low ↦ inl (omega (arith, low)) | inr high ↦ inr (omega (arith, high)) ] in
    let same : Same i (size l) first second = record {
      left = λ g above below. k.left_off g (inl (omega arith));
      right = λ g above below. k.right_off g (inl (omega arith));
      parent = λ g above below. k.parent_off g (omega arith) (inl (omega arith));
    } in
    record {
      top_is = at;
      linked = joined_at l r i gap a b first second new at h.top_is k.top_is h.linked same k.linked j;
      left_off = λ g out. j.left_off g (off g out) ∙ (k.left_off g (out_r g out) ∙ h.left_off g (out_l g out));
      right_off = λ g out. j.right_off g (off g out) ∙ (k.right_off g (out_r g out) ∙ h.right_off g (out_l g out));
      parent_off = λ g some out.
          j.parent_off g (λ e. outside_link l i g some (out_l g out) (e ∙ h.top_is)) (λ e. outside_link r gap g some (out_r g out) (e ∙ k.top_is))
          ∙ (k.parent_off g some (out_r g out) ∙ h.parent_off g some (out_l g out));
    }

-- where the top of such a part stands
pub top_below : (t : Outline) (i top n : ℕ) (old new : Rows) → Sets t i top old new → i + size t ≤ n → top < n
top_below t i top n old new h room =
    let some : 0 < size t = size_above t in
    elim (link_range t i) [ inl z ↦ omega (arith, h.top_is, z) | inr above ↦ omega (arith, h.top_is, above.1) ]

-- the links of a tree, whose top is put on its place
pub rooted : (t : Outline) (n top : ℕ) (left right parent : List ℕ) → length right ≡ STRAND_LIMIT → length parent ≡ STRAND_LIMIT → n ≤ STRAND_LIMIT → size t ≡ n → top ≡ link_to t 0
    → Linked (rows_of left right parent) t 0 (slice_index parent (link_to t 0)) → AreLinks n (rows_of left (set right 0 top) (set parent top 0)) t
rooted t n top left right parent long_right long_parent few leaves is linked =
    let low : top < length parent = elim (link_range t 0) [ inl z ↦ omega (arith, is, z, long_parent) | inr h ↦ omega (arith, is, h.1, leaves, long_parent) ] in
    whole t n (slice_index parent (link_to t 0)) (rows_of left right parent) (rows_of left (set right 0 top) (set parent top 0)) linked
    (λ g. refl)
    (λ g above. get_or-set_other right 0 g top 0 (λ e. omega (arith, e)))
    (get_or-set_same right 0 top 0 (omega arith) ∙ is)
    (λ g off. get_or-set_other parent top g 0 0 (λ e. off (e ∙ is)))
    (ap (λ x. get_or (set parent top 0) x 0) (sym is) ∙ get_or-set_same parent top 0 0 low)
    leaves
