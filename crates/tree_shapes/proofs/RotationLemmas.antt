-- A rotation by gap number is one at a place of the tree.
use Rattle.std.proofs.Common.{◌≡◌, ℕ, ◌+◌, ◌<◌, nat_lt, refl, ap, ◌∙◌, arith, inl, inr, ◌⊎◌}
use Rattle.std.proofs.lemmas.Bool.{cond-false}
use Rattle.std.proofs.lemmas.Bool.Decides.{eqb_tells}
use Rattle.tree_shapes.specs.Outlines.{Outline, Tip, Branch, size}
use Rattle.tree_shapes.specs.Outlines.{top_gap, turn_right, turn_left, raise_at}
use Rattle.tree_shapes.specs.Contexts.{Hole, OnLeft, OnRight, IsRaisedLeft, IsRaisedRight}
use Rattle.tree_shapes.proofs.TestLemmas.{three, less, not_less}

on_the_left : (k i : ℕ) (l l' r : Outline) → IsRaisedLeft k i l l' ⊎ IsRaisedRight k i l l' → IsRaisedLeft k i (Branch l r) (Branch l' r) ⊎ IsRaisedRight k i (Branch l r) (Branch l' r)
on_the_left k i l l' r (inl h) = inl (record {
  around = OnLeft h.around r;
  first = h.first;
  second = h.second;
  third = h.third;
  was = ap (λ t. Branch t r) h.was;
  is = ap (λ t. Branch t r) h.is;
  gap = h.gap;
})
on_the_left k i l l' r (inr h) = inr (record {
  around = OnLeft h.around r;
  first = h.first;
  second = h.second;
  third = h.third;
  was = ap (λ t. Branch t r) h.was;
  is = ap (λ t. Branch t r) h.is;
  gap = h.gap;
})

on_the_right : (k i : ℕ) (l r r' : Outline) → IsRaisedLeft k (i + size l) r r' ⊎ IsRaisedRight k (i + size l) r r' → IsRaisedLeft k i (Branch l r) (Branch l r') ⊎ IsRaisedRight k i (Branch l r) (Branch l r')
on_the_right k i l r r' (inl h) = inl (record {
  around = OnRight l h.around;
  first = h.first;
  second = h.second;
  third = h.third;
  was = ap (Branch l) h.was;
  is = ap (Branch l) h.is;
  gap = h.gap;
})
on_the_right k i l r r' (inr h) = inr (record {
  around = OnRight l h.around;
  first = h.first;
  second = h.second;
  third = h.third;
  was = ap (Branch l) h.was;
  is = ap (Branch l) h.is;
  gap = h.gap;
})

turned_right : (k i : ℕ) (l r : Outline) → i < k → k ≡ top_gap l i → IsRaisedLeft k i (Branch l r) (turn_right l r) ⊎ IsRaisedRight k i (Branch l r) (turn_right l r)
turned_right k i Tip r above e = absurd (omega (arith, e))
turned_right k i (Branch A B) r above e = inl (record { around = Hole; first = A; second = B; third = r; was = refl; is = refl; gap = e })

turned_left : (k i : ℕ) (l r : Outline) → i + size l < k → k ≡ top_gap r (i + size l) → IsRaisedLeft k i (Branch l r) (turn_left l r) ⊎ IsRaisedRight k i (Branch l r) (turn_left l r)
turned_left k i l Tip above e = absurd (omega (arith, e))
turned_left k i l (Branch B C) above e = inr (record { around = Hole; first = l; second = B; third = C; was = refl; is = refl; gap = e })

-- Below the top, a node is raised over its parent.
pub raised_is : (k : ℕ) (t : Outline) (i : ℕ) → i < k → k < i + size t → (k ≡ top_gap t i → ⊥)
    → IsRaisedLeft k i t (raise_at k t i) ⊎ IsRaisedRight k i t (raise_at k t i)
raised_is k Tip i above below off = absurd (omega arith)
raised_is k (Branch l r) i above below off =
    elim (three k (i + size l)) [
      | inl lower ↦ elim (eqb_tells k (top_gap l i)) [
        | inl e ↦ rw (less k (i + size l) lower, e.0) (turned_right k i l r above e.1)
        | inr n ↦ rw (less k (i + size l) lower, n.0) (on_the_left k i l (raise_at k l i) r (raised_is k l i above lower n.1))
      ]
      | inr rest ↦ elim rest [
        | inl e ↦ absurd (off e)
        | inr higher ↦ elim (eqb_tells k (top_gap r (i + size l))) [
          | inl e ↦ rw (not_less k (i + size l) (omega arith), less (i + size l) k higher, e.0) (turned_left k i l r higher e.1)
          | inr n ↦ rw (not_less k (i + size l) (omega arith), less (i + size l) k higher, n.0) (on_the_right k i l r (raise_at k r (i + size l)) (raised_is k r (i + size l) higher (omega arith) n.1))
        ]
      ]
    ]

-- at the top nothing is raised
pub stays : (t : Outline) (k : ℕ) → k ≡ top_gap t 0 → raise_at k t 0 ≡ t
stays Tip k e = refl
stays (Branch l r) k e =
    cond-false (nat_lt k (0 + size l)) _ _ (not_less k (0 + size l) (omega (arith, e))) ∙ cond-false (nat_lt (0 + size l) k) _ _ (not_less (0 + size l) k (omega (arith, e)))
