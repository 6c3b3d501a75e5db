-- Where a node, its parent and the three subtrees under them stand.
use Rattle.std.proofs.Common.{◌≡◌, ℕ, ◌+◌, ◌<◌, Some, refl, ap, ◌∙◌, arith}
use Rattle.std.specs.Prelude.{nat_lt, ◌==◌}
use Rattle.std.proofs.lemmas.Bool.{cond-true, cond-false}
use Rattle.tree_shapes.proofs.TestLemmas as S
use Rattle.tree_shapes.specs.Outlines.{Outline, Branch, size, top_gap, node_at, gap_of, left_under, right_under, left_gap, right_gap, parent_at, parent_gap, Standing}
use Rattle.tree_shapes.specs.Contexts.{Around, Hole, OnLeft, OnRight, fill, place, on_left, on_right}
use Rattle.tree_shapes.proofs.ContextLemmas.{size_above, place_above, place_below}
use Rattle.tree_shapes.proofs.TestLemmas.{less, not_less}

-- the node of a tree of two
pub node_left : (l r : Outline) (i k : ℕ) → k < i + size l → node_at (Branch l r) i k ≡ node_at l i k
node_left l r i k h = cond-true (nat_lt k (i + size l)) _ _ (less k (i + size l) h)

pub node_right : (l r : Outline) (i k : ℕ) → i + size l < k → node_at (Branch l r) i k ≡ node_at r (i + size l) k
node_right l r i k h = cond-false (nat_lt k (i + size l)) _ _ (not_less k (i + size l) (omega arith)) ∙ cond-true (nat_lt (i + size l) k) _ _ (less (i + size l) k h)

pub node_here : (l r : Outline) (i k : ℕ) → k ≡ i + size l → node_at (Branch l r) i k ≡ record { start = i; tree = Branch l r }
node_here l r i k h =
    cond-false (nat_lt k (i + size l)) _ _ (not_less k (i + size l) (omega arith)) ∙ cond-false (nat_lt (i + size l) k) _ _ (not_less (i + size l) k (omega arith))

pub node_in : (a : Around) (s : Outline) (i k : ℕ) → place a i < k → k < place a i + size s → node_at (fill a s) i k ≡ node_at s (place a i) k
node_in Hole s i k above below = refl
node_in (OnLeft a r) s i k above below = node_left (fill a s) r i k (omega (arith, place_below a s i)) ∙ node_in a s i k above below
node_in (OnRight l a) s i k above below = node_right l (fill a s) i k (omega (arith, place_above a (i + size l))) ∙ node_in a s (i + size l) k above below

parent_left : (l r : Outline) (i k : ℕ) → k < i + size l → (k ≡ top_gap l i → ⊥) → parent_at (Branch l r) i k ≡ parent_at l i k
parent_left l r i k h apart = cond-true (nat_lt k (i + size l)) _ _ (less k (i + size l) h) ∙ cond-false (k == top_gap l i) _ _ (S.test_false k (top_gap l i) apart)

parent_right : (l r : Outline) (i k : ℕ) → i + size l < k → (k ≡ top_gap r (i + size l) → ⊥) → parent_at (Branch l r) i k ≡ parent_at r (i + size l) k
parent_right l r i k h apart =
    cond-false (nat_lt k (i + size l)) _ _ (not_less k (i + size l) (omega arith))
    ∙ (cond-true (nat_lt (i + size l) k) _ _ (less (i + size l) k h) ∙ cond-false (k == top_gap r (i + size l)) _ _ (S.test_false k (top_gap r (i + size l)) apart))

pub top_off : (a : Around) (s : Outline) (i k : ℕ) → place a i < k → k < place a i + size s → (k ≡ top_gap s (place a i) → ⊥) → k ≡ top_gap (fill a s) i → ⊥
top_off Hole s i k above below apart e = apart e
top_off (OnLeft a r) s i k above below apart e = omega (arith, e, place_below a s i)
top_off (OnRight l a) s i k above below apart e = omega (arith, e, place_above a (i + size l))

pub parent_in : (a : Around) (s : Outline) (i k : ℕ) → place a i < k → k < place a i + size s → (k ≡ top_gap s (place a i) → ⊥) → parent_at (fill a s) i k ≡ parent_at s (place a i) k
parent_in Hole s i k above below apart = refl
parent_in (OnLeft a r) s i k above below apart =
    parent_left (fill a s) r i k (omega (arith, place_below a s i)) (top_off a s i k above below apart) ∙ parent_in a s i k above below apart
parent_in (OnRight l a) s i k above below apart =
    parent_right l (fill a s) i k (omega (arith, place_above a (i + size l))) (top_off a s (i + size l) k above below apart) ∙ parent_in a s (i + size l) k above below apart

module _ (a : Around) (A B C : Outline) where
  abbrev i : ℕ
  i = place a 0

  module _ where
    abbrev t : Outline
    t = fill a (on_left A B C)

    abbrev k : ℕ
    k = i + size A

    abbrev p : ℕ
    p = k + size B

    node_k : node_at t 0 k ≡ record { start = i; tree = Branch A B }
    node_k =
        node_in a (on_left A B C) 0 k (omega (arith, size_above A)) (omega (arith, size_above B))
        ∙ (node_left (Branch A B) C i k (omega (arith, size_above B)) ∙ node_here A B i k refl)

    node_p : node_at t 0 p ≡ record { start = i; tree = on_left A B C }
    node_p =
        node_in a (on_left A B C) 0 p (omega (arith, size_above A)) (omega (arith, size_above C))
        ∙ node_here (Branch A B) C i p (omega arith)

    pub left_parent : parent_gap t k ≡ Some p
    left_parent =
        parent_in a (on_left A B C) 0 k (omega (arith, size_above A)) (omega (arith, size_above B)) (λ e. omega (arith, e, size_above B))
        ∙ (cond-true (nat_lt k (i + (size A + size B))) _ _ (less k (i + (size A + size B)) (omega (arith, size_above B)))
        ∙ (cond-true (k == top_gap (Branch A B) i) _ _ (S.test_true k k refl) ∙ ap (λ n. Some n) (omega arith)))

    pub left_first : left_gap t k ≡ gap_of A i
    left_first = ap (λ (s : Standing). left_under s.tree s.start) node_k

    pub left_second : right_gap t k ≡ gap_of B k
    left_second = ap (λ (s : Standing). right_under s.tree s.start) node_k

    pub left_third : right_gap t p ≡ gap_of C p
    left_third =
        let same : i + (size A + size B) ≡ p = omega arith in
        ap (λ (s : Standing). right_under s.tree s.start) node_p ∙ ap (gap_of C) same

-- the node is the right child
module _ (a : Around) (A B C : Outline) where
  abbrev start : ℕ
  start = place a 0

  abbrev whole : Outline
  whole = fill a (on_right A B C)

  abbrev upper : ℕ
  upper = start + size A

  abbrev lower : ℕ
  lower = upper + size B

  node_lower : node_at whole 0 lower ≡ record { start = upper; tree = Branch B C }
  node_lower =
      node_in a (on_right A B C) 0 lower (omega (arith, size_above A)) (omega (arith, size_above C))
      ∙ (node_right A (Branch B C) start lower (omega (arith, size_above B)) ∙ node_here B C upper lower refl)

  node_upper : node_at whole 0 upper ≡ record { start = start; tree = on_right A B C }
  node_upper =
      node_in a (on_right A B C) 0 upper (omega (arith, size_above A)) (omega (arith, size_above B, size_above C))
      ∙ node_here A (Branch B C) start upper refl

  pub right_parent : parent_gap whole lower ≡ Some upper
  right_parent =
      parent_in a (on_right A B C) 0 lower (omega (arith, size_above A)) (omega (arith, size_above C)) (λ e. omega (arith, e, size_above B))
      ∙ (cond-false (nat_lt lower upper) _ _ (not_less lower upper (omega (arith, size_above B)))
      ∙ (cond-true (nat_lt upper lower) _ _ (less upper lower (omega (arith, size_above B)))
      ∙ cond-true (lower == top_gap (Branch B C) upper) _ _ (S.test_true lower lower refl)))

  pub right_first : left_gap whole upper ≡ gap_of A start
  right_first = ap (λ (s : Standing). left_under s.tree s.start) node_upper

  pub right_second : left_gap whole lower ≡ gap_of B upper
  right_second = ap (λ (s : Standing). left_under s.tree s.start) node_lower

  pub right_third : right_gap whole lower ≡ gap_of C lower
  right_third = ap (λ (s : Standing). right_under s.tree s.start) node_lower
