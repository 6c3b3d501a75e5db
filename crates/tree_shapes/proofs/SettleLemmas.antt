-- The raises along both spines under a node make it a pair.
use Rattle.std.proofs.Common.{◌≡◌, ℕ, ◌+◌, ◌<◌, Some, ◌++◌, refl, ap, sym, ◌∙◌, arith, inl, inr}
use Rattle.std.specs.Prelude.{nat_lt, ◌==◌, ◌&&◌}
use Rattle.std.specs.Option.{is_none, option_or}
use Rattle.std.proofs.lemmas.Bool.{cond-true, cond-false}
use Rattle.tree_shapes.specs.Outlines.{Outline, Tip, Branch, size, Standing, top_gap, node_at, gap_of, left_under, right_under, left_gap, right_gap, raise_at}
use Rattle.tree_shapes.specs.Contexts.{Around, Hole, OnLeft, OnRight, fill, place, on_left, on_right}
use Rattle.tree_shapes.specs.Settling.{is_pair_at, next_raise, Settles, right_spine, left_spine}
use Rattle.tree_shapes.proofs.ContextLemmas.{size_above, place_above, place_below}
use Rattle.tree_shapes.proofs.TestLemmas as S
use Rattle.tree_shapes.proofs.TestLemmas.{less, not_less, three}
use Rattle.tree_shapes.proofs.ReaderLemmas.{node_in, node_here, top_off}

-- one hole in another
abbrev pub inside : Around → Around → Around
inside Hole b = b
inside (OnLeft a r) b = OnLeft (inside a b) r
inside (OnRight l a) b = OnRight l (inside a b)

fill_inside : (a b : Around) (t : Outline) → fill (inside a b) t ≡ fill a (fill b t)
fill_inside Hole b t = refl
fill_inside (OnLeft a r) b t = ap (λ l. Branch l r) (fill_inside a b t)
fill_inside (OnRight l a) b t = ap (Branch l) (fill_inside a b t)

place_inside : (a b : Around) (i : ℕ) → place (inside a b) i ≡ place b (place a i)
place_inside Hole b i = refl
place_inside (OnLeft a r) b i = place_inside a b i
place_inside (OnRight l a) b i = place_inside a b (i + size l)

-- The node at a gap, with what is around it.
pub record HasNode (t : Outline) (i k : ℕ) : Type 0 where
  pub around : Around
  pub left : Outline
  pub right : Outline
  pub is : t ≡ fill around (Branch left right)
  pub gap : k ≡ place around i + size left

node_on_left : (l r : Outline) (i k : ℕ) → HasNode l i k → HasNode (Branch l r) i k
node_on_left l r i k h = record { around = OnLeft h.around r; left = h.left; right = h.right; is = ap (λ t. Branch t r) h.is; gap = h.gap }

node_on_right : (l r : Outline) (i k : ℕ) → HasNode r (i + size l) k → HasNode (Branch l r) i k
node_on_right l r i k h = record { around = OnRight l h.around; left = h.left; right = h.right; is = ap (Branch l) h.is; gap = h.gap }

pub node_there : (t : Outline) (i k : ℕ) → i < k → k < i + size t → HasNode t i k
node_there Tip i k above below = absurd (omega arith)
node_there (Branch l r) i k above below =
    elim (three k (i + size l)) [
      | inl lower ↦ node_on_left l r i k (node_there l i k above lower)
      | inr rest ↦ elim rest [
        | inl here ↦ record { around = Hole; left = l; right = r; is = refl; gap = here }
        | inr higher ↦ node_on_right l r i k (node_there r (i + size l) k higher (omega arith))
      ]
    ]

raise_left : (l r : Outline) (i k : ℕ) → k < i + size l → (k ≡ top_gap l i → ⊥) → raise_at k (Branch l r) i ≡ Branch (raise_at k l i) r
raise_left l r i k h apart = cond-true (nat_lt k (i + size l)) _ _ (less k (i + size l) h) ∙ cond-false (k == top_gap l i) _ _ (S.test_false k (top_gap l i) apart)

raise_right : (l r : Outline) (i k : ℕ) → i + size l < k → (k ≡ top_gap r (i + size l) → ⊥) → raise_at k (Branch l r) i ≡ Branch l (raise_at k r (i + size l))
raise_right l r i k h apart =
    cond-false (nat_lt k (i + size l)) _ _ (not_less k (i + size l) (omega arith))
    ∙ (cond-true (nat_lt (i + size l) k) _ _ (less (i + size l) k h) ∙ cond-false (k == top_gap r (i + size l)) _ _ (S.test_false k (top_gap r (i + size l)) apart))

-- a raise below the top of what fills the hole is one there
raise_in : (a : Around) (s : Outline) (i k : ℕ) → place a i < k → k < place a i + size s → (k ≡ top_gap s (place a i) → ⊥) → raise_at k (fill a s) i ≡ fill a (raise_at k s (place a i))
raise_in Hole s i k above below apart = refl
raise_in (OnLeft a r) s i k above below apart =
    raise_left (fill a s) r i k (omega (arith, place_below a s i)) (top_off a s i k above below apart)
    ∙ ap (λ t. Branch t r) (raise_in a s i k above below apart)
raise_in (OnRight l a) s i k above below apart =
    raise_right l (fill a s) i k (omega (arith, place_above a (i + size l))) (top_off a s (i + size l) k above below apart)
    ∙ ap (Branch l) (raise_in a s (i + size l) k above below apart)

-- the rotation of a left child, and of a right child
pub turns_right : (a : Around) (A B C : Outline) (i : ℕ) → raise_at (place a i + size A) (fill a (on_left A B C)) i ≡ fill a (on_right A B C)
turns_right a A B C i =
    let p = place a i in
    raise_in a (on_left A B C) i (p + size A) (omega (arith, size_above A)) (omega (arith, size_above B)) (λ e. omega (arith, e, size_above B))
    ∙ ap (fill a) (cond-true (nat_lt (p + size A) (p + (size A + size B))) _ _ (less (p + size A) (p + (size A + size B)) (omega (arith, size_above B)))
    ∙ cond-true (p + size A == p + size A) _ _ (S.test_true (p + size A) (p + size A) refl))

pub turns_left : (a : Around) (A B C : Outline) (i : ℕ) → raise_at ((place a i + size A) + size B) (fill a (on_right A B C)) i ≡ fill a (on_left A B C)
turns_left a A B C i =
    let p = place a i in
    let k = (p + size A) + size B in
    raise_in a (on_right A B C) i k (omega (arith, size_above A)) (omega (arith, size_above C)) (λ e. omega (arith, e, size_above B))
    ∙ ap (fill a) (cond-false (nat_lt k (p + size A)) _ _ (not_less k (p + size A) (omega arith))
    ∙ (cond-true (nat_lt (p + size A) k) _ _ (less (p + size A) k (omega (arith, size_above B)))
    ∙ cond-true (k == k) _ _ (S.test_true k k refl)))

-- the node that fills the hole, and its children
module _ (a : Around) (l r : Outline) (k : ℕ) (at : k ≡ place a 0 + size l) where
  pub node_filled : node_at (fill a (Branch l r)) 0 k ≡ record { start = place a 0; tree = Branch l r }
  node_filled = node_in a (Branch l r) 0 k (omega (arith, at, size_above l)) (omega (arith, at, size_above r)) ∙ node_here l r (place a 0) k at

  left_child : left_gap (fill a (Branch l r)) k ≡ gap_of l (place a 0)
  left_child = ap (λ (s : Standing). left_under s.tree s.start) node_filled

  right_child : right_gap (fill a (Branch l r)) k ≡ gap_of r (place a 0 + size l)
  right_child = ap (λ (s : Standing). right_under s.tree s.start) node_filled

  next_is : next_raise (fill a (Branch l r)) k ≡ option_or (gap_of l (place a 0)) (gap_of r (place a 0 + size l))
  next_is = λ j. option_or (left_child j) (right_child j)

  pair_is : is_pair_at (fill a (Branch l r)) k ≡ (is_none (gap_of l (place a 0)) && is_none (gap_of r (place a 0 + size l)))
  pair_is = λ j. is_none (left_child j) && is_none (right_child j)

-- where the left child is a strand
settles_right : (r : Outline) (a : Around) (k : ℕ) (t : Outline) → k ≡ place a 0 + 1 → t ≡ fill a (Branch Tip r) → Settles k t (left_spine r k)
settles_right Tip a k t at is = ap (λ u. is_pair_at u k) is ∙ pair_is a Tip Tip k at
settles_right (Branch B C) a k t at is =
    let lower = inside a (OnLeft Hole C) in
    let same : place lower 0 ≡ place a 0 = place_inside a (OnLeft Hole C) 0 in
    let gap : k + size B ≡ (place a 0 + 1) + size B = omega (arith, at) in (
      ap (λ u. next_raise u k) is ∙ (next_is a Tip (Branch B C) k at ∙ ap (λ g. Some (g + size B)) (sym at)),
      settles_right B lower k (raise_at (k + size B) t 0) (omega (arith, at, same))
          ((λ j. raise_at (gap j) (is j) 0) ∙ (turns_left a Tip B C 0 ∙ sym (fill_inside a (OnLeft Hole C) (Branch Tip B)))),
    )

pub settles_from : (l r : Outline) (a : Around) (i k : ℕ) (t : Outline) → i ≡ place a 0 → k ≡ i + size l → t ≡ fill a (Branch l r) → Settles k t (right_spine l i ++ left_spine r k)
settles_from Tip r a i k t from at is = settles_right r a k t (omega (arith, from, at)) is
settles_from (Branch A B) r a i k t from at is =
    let lower = inside a (OnRight A Hole) in
    let same : place lower 0 ≡ place a 0 + size A = place_inside a (OnRight A Hole) 0 in
    let here : k ≡ place a 0 + size (Branch A B) = omega (arith, from, at) in (
      ap (λ u. next_raise u k) is ∙ (next_is a (Branch A B) r k here ∙ ap (λ g. Some (g + size A)) (sym from)),
      settles_from B r lower (i + size A) k (raise_at (i + size A) t 0) (omega (arith, from, same)) (omega (arith, at))
          ((λ j. raise_at (from j + size A) (is j) 0) ∙ (turns_right a A B r 0 ∙ sym (fill_inside a (OnRight A Hole) (Branch B r)))),
    )
