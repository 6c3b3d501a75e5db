-- What the links of a tree say of its nodes.
use Rattle.std.proofs.Common.{◌≡◌, ◌≢◌, ℕ, ◌+◌, ◌<◌, Option, Some, None, refl, ap, sym, ◌∙◌, inl, inr, arith}
use Rattle.std.specs.Prelude.{if◌then◌else◌, ◌==◌, nat_lt}
use Rattle.std.proofs.lemmas.Bool.Decides.{eqb_tells}
use Rattle.std.proofs.lemmas.Bool.{cond-true, cond-false}
use Rattle.tree_shapes.proofs.TestLemmas as S
use Rattle.tree_shapes.specs.Outlines.{Outline, Tip, Branch, size, top_gap, node_at, Standing, gap_of, left_under, right_under, left_gap, right_gap, parent_at, parent_gap}
use Rattle.tree_shapes.proofs.ContextLemmas.{size_above}
use Rattle.tree_shapes.proofs.TestLemmas.{three, less, not_less}
use Rattle.tree_shapes.proofs.ReaderLemmas.{node_left, node_right, node_here}
use Rattle.tree_shapes.specs.Links.{Rows, link_to, link_in, Linked, AreLinks}

some_link : (m : ℕ) → 0 < m → link_in m ≡ Some m
some_link m h = cond-false (m == 0) _ _ (S.test_false m 0 (λ e. omega (arith, e)))

pub gap_is : (t : Outline) (i : ℕ) → link_in (link_to t i) ≡ gap_of t i
gap_is Tip i = refl
gap_is (Branch l r) i = some_link (i + size l) (omega (arith, size_above l))

abbrev under_left : Standing → Option ℕ
under_left s = left_under s.tree s.start

abbrev under_right : Standing → Option ℕ
under_right s = right_under s.tree s.start

pub left_linked : (t : Outline) (i up k : ℕ) (rows : Rows) → i < k → k < i + size t → Linked rows t i up → link_in (rows.left k) ≡ under_left (node_at t i k)
left_linked Tip i up k rows above below is = absurd (omega arith)
left_linked (Branch l r) i up k rows above below is =
    elim (three k (i + size l)) [
      | inl lower ↦ left_linked l i (i + size l) k rows above lower is.3 ∙ ap under_left (sym (node_left l r i k lower))
      | inr rest ↦ elim rest [
        | inl here ↦ ap (λ m. link_in (rows.left m)) here ∙ (ap link_in is.0 ∙ (gap_is l i ∙ ap under_left (sym (node_here l r i k here))))
        | inr higher ↦ left_linked r (i + size l) (i + size l) k rows higher (omega arith) is.4 ∙ ap under_left (sym (node_right l r i k higher))
      ]
    ]

pub right_linked : (t : Outline) (i up k : ℕ) (rows : Rows) → i < k → k < i + size t → Linked rows t i up → link_in (rows.right k) ≡ under_right (node_at t i k)
right_linked Tip i up k rows above below is = absurd (omega arith)
right_linked (Branch l r) i up k rows above below is =
    elim (three k (i + size l)) [
      | inl lower ↦ right_linked l i (i + size l) k rows above lower is.3 ∙ ap under_right (sym (node_left l r i k lower))
      | inr rest ↦ elim rest [
        | inl here ↦ ap (λ m. link_in (rows.right m)) here ∙ (ap link_in is.1 ∙ (gap_is r (i + size l) ∙ ap under_right (sym (node_here l r i k here))))
        | inr higher ↦ right_linked r (i + size l) (i + size l) k rows higher (omega arith) is.4 ∙ ap under_right (sym (node_right l r i k higher))
      ]
    ]

-- the parent, by whether the node is at the top
abbrev parent_or : Outline → ℕ → ℕ → Option ℕ → Option ℕ
parent_or t i k up = if k == top_gap t i then up else parent_at t i k

parent_lower : (l r : Outline) (i k : ℕ) → k < i + size l → parent_at (Branch l r) i k ≡ parent_or l i k (Some (i + size l))
parent_lower l r i k h = cond-true (nat_lt k (i + size l)) _ _ (less k (i + size l) h)

parent_higher : (l r : Outline) (i k : ℕ) → i + size l < k → parent_at (Branch l r) i k ≡ parent_or r (i + size l) k (Some (i + size l))
parent_higher l r i k h = cond-false (nat_lt k (i + size l)) _ _ (not_less k (i + size l) (omega arith)) ∙ cond-true (nat_lt (i + size l) k) _ _ (less (i + size l) k h)

not_top : (l r : Outline) (i k : ℕ) (up : Option ℕ) → k ≢ i + size l → parent_or (Branch l r) i k up ≡ parent_at (Branch l r) i k
not_top l r i k up h = cond-false (k == i + size l) _ _ (S.test_false k (i + size l) h)

pub parent_linked : (t : Outline) (i up k : ℕ) (rows : Rows) → i < k → k < i + size t → Linked rows t i up → link_in (rows.parent k) ≡ parent_or t i k (link_in up)
parent_linked Tip i up k rows above below is = absurd (omega arith)
parent_linked (Branch l r) i up k rows above below is =
    elim (three k (i + size l)) [
      | inl lower ↦
          parent_linked l i (i + size l) k rows above lower is.3
          ∙ (ap (parent_or l i k) (some_link (i + size l) (omega (arith, size_above l)))
          ∙ (sym (parent_lower l r i k lower) ∙ sym (not_top l r i k (link_in up) (λ e. omega (arith, e)))))
      | inr rest ↦ elim rest [
        | inl here ↦ ap (λ m. link_in (rows.parent m)) here ∙ (ap link_in is.2 ∙ sym (cond-true (k == i + size l) (link_in up) _ (S.test_true k (i + size l) here)))
        | inr higher ↦
            parent_linked r (i + size l) (i + size l) k rows higher (omega arith) is.4
            ∙ (ap (parent_or r (i + size l) k) (some_link (i + size l) (omega (arith, size_above l)))
            ∙ (sym (parent_higher l r i k higher) ∙ sym (not_top l r i k (link_in up) (λ e. omega (arith, e)))))
      ]
    ]

at_top : (t : Outline) (k : ℕ) → 0 < k → parent_or t 0 k None ≡ parent_gap t k
at_top Tip k h = cond-false (k == 0) _ _ (S.test_false k 0 (λ e. omega (arith, e)))
at_top (Branch l r) k h =
    elim (eqb_tells k (0 + size l)) [
      | inl here ↦
          cond-true (k == 0 + size l) _ _ here.0
          ∙ sym (cond-false (nat_lt k (0 + size l)) _ _ (not_less k (0 + size l) (omega (arith, here.1))) ∙ cond-false (nat_lt (0 + size l) k) _ _ (not_less (0 + size l) k (omega (arith, here.1))))
      | inr off ↦ cond-false (k == 0 + size l) _ _ off.0
    ]

-- what the readers answer
module _ (n : ℕ) (rows : Rows) (t : Outline) (is : AreLinks n rows t) (k : ℕ) (low : 0 < k) (high : k < size t) where
  pub left_read : link_in (rows.left k) ≡ left_gap t k
  left_read = left_linked t 0 0 k rows low (omega arith) is.linked

  pub right_read : link_in (rows.right k) ≡ right_gap t k
  right_read = right_linked t 0 0 k rows low (omega arith) is.linked

  pub parent_read : link_in (rows.parent k) ≡ parent_gap t k
  parent_read = parent_linked t 0 0 k rows low (omega arith) is.linked ∙ at_top t k low
