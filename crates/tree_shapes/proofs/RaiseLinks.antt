-- A raise of links.
use Rattle.std.proofs.Common.{◌≡◌, ◌≢◌, ℕ, ◌+◌, ◌<◌, ◌≤◌, ap, sym, ◌∙◌, subst, ◌⊎◌, inl, inr, arith}
use Rattle.std.proofs.lemmas.Bool.Decides.{eqb_tells}
use Rattle.tree_shapes.specs.declared.limits.TheConstants.{STRAND_LIMIT}
use Rattle.tree_shapes.specs.Outlines.{Outline, Tip, Branch, size, top_gap, raise_at}
use Rattle.tree_shapes.specs.Contexts.{Around, Hole, OnLeft, OnRight, fill, place, on_left, on_right}
use Rattle.tree_shapes.specs.Contexts.{IsRaisedLeft, IsRaisedRight}
use Rattle.tree_shapes.proofs.ContextLemmas.{size_above, fill_size, place_below}
use Rattle.tree_shapes.proofs.RotationLemmas.{raised_is, stays}
use Rattle.tree_shapes.specs.Links.{Rows, grown, link_to, Linked, AreLinks, IsShape, Ready, outline_in, TurnsRight, TurnsLeft}
use Rattle.tree_shapes.proofs.TurnLinks.{up_in, up_range, link_range, grown_is, turned_right, right_link}
use Rattle.tree_shapes.proofs.TurnLinksLeft.{turned_left, right_link as right_link_left}

-- the links of what fills the hole
pub linked_in : (a : Around) (s : Outline) (i up : ℕ) (rows : Rows) → Linked rows (fill a s) i up → Linked rows s (place a i) (up_in a s i up)
linked_in Hole s i up rows is = is
linked_in (OnLeft a r) s i up rows is = linked_in a s i (i + size (fill a s)) rows is.3
linked_in (OnRight l a) s i up rows is = linked_in a s (i + size l) (i + size l) rows is.4

-- the tree of all links is the tree that they link
pub outline_is : (n : ℕ) (rows : Rows) (t : Outline) → AreLinks n rows t → outline_in n rows ≡ t
outline_is n rows t is = ap (grown rows n) is.top ∙ grown_is t 0 0 n rows (omega (arith, is.leaves)) is.linked

-- the parent of what fills the hole is outside it
up_out : (a : Around) (s : Outline) (i up : ℕ) → ((x : ℕ) → i < x → x < i + size (fill a s) → x ≢ up) → (x : ℕ) → place a i < x → x < place a i + size s → x ≢ up_in a s i up
up_out Hole s i up out x above below = out x above below
up_out (OnLeft a r) s i up out x above below = up_out a s i (i + size (fill a s)) (λ y low high e. omega (arith, e)) x above below
up_out (OnRight l a) s i up out x above below = up_out a s (i + size l) (i + size l) (λ y low high e. omega (arith, e)) x above below

top_parent : (t : Outline) (k : ℕ) (rows : Rows) → 0 < k → Linked rows t 0 0 → k ≡ top_gap t 0 → rows.parent k ≡ 0
top_parent Tip k rows low is e = absurd (omega (arith, e))
top_parent (Branch l r) k rows low is e = ap rows.parent e ∙ is.2

module _ (n : ℕ) (few : n ≤ STRAND_LIMIT) (rows : Rows) (t : Outline) (is : AreLinks n rows t) (k : ℕ) (low : 0 < k) (high : k < size t) where
  abbrev p : ℕ
  p = rows.parent k

  off_top : 0 < p → k ≡ top_gap t 0 → ⊥
  off_top some e = omega (arith, some, top_parent t k rows low is.linked e)

  module _ (h : IsRaisedLeft k 0 t (raise_at k t 0)) where
    abbrev j : ℕ
    j = place h.around 0

    abbrev T : Outline
    T = on_left h.first h.second h.third

    whole : Linked rows (fill h.around T) 0 0
    whole = subst (λ (s : Outline). Linked rows s 0 0) h.was is.linked

    inner : Linked rows T j (up_in h.around T 0 0)
    inner = linked_in h.around T 0 0 rows whole

    left_p : p ≡ (j + size h.first) + size h.second
    left_p = let assoc : j + (size h.first + size h.second) ≡ (j + size h.first) + size h.second = omega arith in ap rows.parent h.gap ∙ (inner.3.2 ∙ assoc)

    left_b : rows.right k ≡ link_to h.second (j + size h.first)
    left_b = ap rows.right h.gap ∙ inner.3.1

    left_g : rows.parent p ≡ up_in h.around T 0 0
    left_g = let assoc : (j + size h.first) + size h.second ≡ j + (size h.first + size h.second) = omega arith in ap rows.parent (left_p ∙ assoc) ∙ inner.2

    left_size : size (fill h.around T) ≡ n
    left_size = ap size (sym h.was) ∙ is.leaves

    left_ready : Ready k p (rows.right k) (rows.parent p)
    left_ready =
        let fits : place h.around 0 + size T ≤ 0 + size (fill h.around T) = place_below h.around T 0 in
        let out = up_out h.around T 0 0 (λ x above below e. omega (arith, e)) in
        let k_in : place h.around 0 < k = omega (arith, h.gap, size_above h.first) in
        let k_end : k < place h.around 0 + size T = omega (arith, h.gap, size_above h.second, size_above h.third) in
        let p_in : place h.around 0 < p = omega (arith, left_p, size_above h.first) in
        let p_end : p < place h.around 0 + size T = omega (arith, left_p, size_above h.third) in
        record {
          p_low = omega (arith, left_size);
          b_low = elim (link_range h.second (j + size h.first)) [ inl z ↦ omega (arith, left_b, z) | inr r ↦ omega (arith, left_b, r.1, left_size) ];
          g_low = elim (up_range h.around T 0 0) [ inl z ↦ omega (arith, left_g, z) | inr r ↦ omega (arith, left_g, r.1, left_size) ];
          apart = λ e. omega (arith, e, h.gap, left_p, size_above h.second);
          g_off_k = λ e. out k k_in k_end (sym e ∙ left_g);
          g_off_p = λ e. out p p_in p_end (sym e ∙ left_g);
          b_off_k = λ e. elim (link_range h.second (j + size h.first)) [ inl z ↦ omega (arith, e, left_b, z) | inr r ↦ omega (arith, e, left_b, h.gap, r.0) ];
          b_off_p = λ e. elim (link_range h.second (j + size h.first)) [ inl z ↦ omega (arith, e, left_b, z, left_p) | inr r ↦ omega (arith, e, left_b, left_p, r.1) ];
        }

    left_done : (new : Rows) → TurnsRight k p (rows.right k) (rows.parent p) rows new → AreLinks n new (raise_at k t 0)
    left_done new turns =
        let at_k = subst (λ (x : ℕ). TurnsRight x p (rows.right k) (rows.parent p) rows new) h.gap turns in
        let at_p = subst (λ (x : ℕ). TurnsRight (j + size h.first) x (rows.right k) (rows.parent p) rows new) left_p at_k in
        let at_b = subst (λ (x : ℕ). TurnsRight (j + size h.first) ((j + size h.first) + size h.second) x (rows.parent p) rows new) left_b at_p in
        let at_g = subst (λ (x : ℕ). TurnsRight (j + size h.first) ((j + size h.first) + size h.second) (link_to h.second (j + size h.first)) x rows new) left_g at_b in
        record {
          top = right_link h.first h.second h.third rows new h.around 0 at_g (is.top ∙ ap (λ s. link_to s 0) h.was) ∙ ap (λ s. link_to s 0) (sym h.is);
          linked = subst (λ (s : Outline). Linked new s 0 0) (sym h.is) (turned_right h.first h.second h.third rows new h.around 0 0 (λ x above below e. omega (arith, e)) at_g whole);
          leaves = ap size h.is ∙ (fill_size h.around (on_right h.first h.second h.third) T (omega arith) ∙ left_size);
        }

  module _ (h : IsRaisedRight k 0 t (raise_at k t 0)) where
    abbrev start : ℕ
    start = place h.around 0

    abbrev W : Outline
    W = on_right h.first h.second h.third

    all : Linked rows (fill h.around W) 0 0
    all = subst (λ (s : Outline). Linked rows s 0 0) h.was is.linked

    filled : Linked rows W start (up_in h.around W 0 0)
    filled = linked_in h.around W 0 0 rows all

    right_p : p ≡ start + size h.first
    right_p = ap rows.parent h.gap ∙ filled.4.2

    right_b : rows.left k ≡ link_to h.second (start + size h.first)
    right_b = ap rows.left h.gap ∙ filled.4.0

    right_g : rows.parent p ≡ up_in h.around W 0 0
    right_g = ap rows.parent right_p ∙ filled.2

    right_size : size (fill h.around W) ≡ n
    right_size = ap size (sym h.was) ∙ is.leaves

    right_ready : Ready k p (rows.left k) (rows.parent p)
    right_ready =
        let fits : place h.around 0 + size W ≤ 0 + size (fill h.around W) = place_below h.around W 0 in
        let out = up_out h.around W 0 0 (λ x above below e. omega (arith, e)) in
        let k_in : place h.around 0 < k = omega (arith, h.gap, size_above h.first) in
        let k_end : k < place h.around 0 + size W = omega (arith, h.gap, size_above h.third) in
        let p_in : place h.around 0 < p = omega (arith, right_p, size_above h.first) in
        let p_end : p < place h.around 0 + size W = omega (arith, right_p, size_above h.second, size_above h.third) in
        record {
          p_low = omega (arith, right_size);
          b_low = elim (link_range h.second (start + size h.first)) [ inl z ↦ omega (arith, right_b, z) | inr r ↦ omega (arith, right_b, r.1, right_size) ];
          g_low = elim (up_range h.around W 0 0) [ inl z ↦ omega (arith, right_g, z) | inr r ↦ omega (arith, right_g, r.1, right_size) ];
          apart = λ e. omega (arith, e, h.gap, right_p, size_above h.second);
          g_off_k = λ e. out k k_in k_end (sym e ∙ right_g);
          g_off_p = λ e. out p p_in p_end (sym e ∙ right_g);
          b_off_k = λ e. elim (link_range h.second (start + size h.first)) [ inl z ↦ omega (arith, e, right_b, z) | inr r ↦ omega (arith, e, right_b, h.gap, r.1) ];
          b_off_p = λ e. elim (link_range h.second (start + size h.first)) [ inl z ↦ omega (arith, e, right_b, z, right_p, size_above h.first) | inr r ↦ omega (arith, e, right_b, right_p, r.0) ];
        }

    right_done : (new : Rows) → TurnsLeft k p (rows.left k) (rows.parent p) rows new → AreLinks n new (raise_at k t 0)
    right_done new turns =
        let at_k = subst (λ (x : ℕ). TurnsLeft x p (rows.left k) (rows.parent p) rows new) h.gap turns in
        let at_p = subst (λ (x : ℕ). TurnsLeft ((start + size h.first) + size h.second) x (rows.left k) (rows.parent p) rows new) right_p at_k in
        let at_b = subst (λ (x : ℕ). TurnsLeft ((start + size h.first) + size h.second) (start + size h.first) x (rows.parent p) rows new) right_b at_p in
        let at_g = subst (λ (x : ℕ). TurnsLeft ((start + size h.first) + size h.second) (start + size h.first) (link_to h.second (start + size h.first)) x rows new) right_g at_b in
        record {
          top = right_link_left h.first h.second h.third rows new h.around 0 at_g (is.top ∙ ap (λ s. link_to s 0) h.was) ∙ ap (λ s. link_to s 0) (sym h.is);
          linked = subst (λ (s : Outline). Linked new s 0 0) (sym h.is) (turned_left h.first h.second h.third rows new h.around 0 0 (λ x above below e. omega (arith, e)) at_g all);
          leaves = ap size h.is ∙ (fill_size h.around (on_left h.first h.second h.third) W (omega arith) ∙ right_size);
        }

  -- which of the two it is
  either : 0 < p → IsRaisedLeft k 0 t (raise_at k t 0) ⊎ IsRaisedRight k 0 t (raise_at k t 0)
  either some = raised_is k t 0 low (omega arith) (off_top some)

  pub is_top : p ≡ 0 → raise_at k t 0 ≡ t
  is_top none =
      elim (eqb_tells k (top_gap t 0)) [
        | inl here ↦ stays t k here.1
        | inr off ↦ elim (raised_is k t 0 low (omega arith) off.1) [
          | inl h ↦ absurd (omega (arith, none, left_p h, size_above h.first))
          | inr h ↦ absurd (omega (arith, none, right_p h, size_above h.first))
        ]
      ]

  pub ready_right : k < p → Ready k p (rows.right k) (rows.parent p)
  ready_right under = elim (either (omega arith)) [ inl h ↦ left_ready h | inr h ↦ absurd (omega (arith, under, right_p h, h.gap)) ]

  pub done_right : k < p → (new : Rows) → TurnsRight k p (rows.right k) (rows.parent p) rows new → AreLinks n new (raise_at k t 0)
  done_right under new turns = elim (either (omega arith)) [ inl h ↦ left_done h new turns | inr h ↦ absurd (omega (arith, under, right_p h, h.gap)) ]

  pub ready_left : 0 < p → p ≤ k → Ready k p (rows.left k) (rows.parent p)
  ready_left some over = elim (either some) [ inl h ↦ absurd (omega (arith, over, left_p h, h.gap, size_above h.second)) | inr h ↦ right_ready h ]

  pub done_left : 0 < p → p ≤ k → (new : Rows) → TurnsLeft k p (rows.left k) (rows.parent p) rows new → AreLinks n new (raise_at k t 0)
  done_left some over new turns = elim (either some) [ inl h ↦ absurd (omega (arith, over, left_p h, h.gap, size_above h.second)) | inr h ↦ right_done h new turns ]

-- a shape whose links are those of a tree
pub shape_of : (n : ℕ) (rows : Rows) (t : Outline) → 2 ≤ n → n ≤ STRAND_LIMIT → AreLinks n rows t → IsShape n rows
shape_of n rows t some few is = record { some = some; few = few; links = subst (AreLinks n rows) (sym (outline_is n rows t is)) is }
