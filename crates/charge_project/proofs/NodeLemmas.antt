-- The labels at the nodes of a tree, by gap.
use Rattle.std.proofs.Common.{◌≡◌, ℕ, ◌+◌, ◌-◌, ◌<◌, ◌≤◌, true, List, Some, refl, ap, sym, ◌∙◌, subst, arith, slice_index, inl, inr}
use Rattle.std.specs.Prelude.{◌&&◌}
use Rattle.ring_laws.proofs.StatedLemmas.{some_inj}
use Rattle.symbol_table.specs.Symbols.{Symbols}
use Rattle.tree_shapes.specs.Contexts.{Hole, OnLeft, OnRight, place}
use Rattle.tree_shapes.specs.Labelled.{is_admissible}
use Rattle.tree_shapes.specs.Outlines.{Outline, Tip, Branch, Standing, size, node_at, gap_of, left_gap, left_under, right_gap, right_under, with_labels}
use Rattle.tree_shapes.proofs.ContextLemmas.{size_above, place_below}
use Rattle.tree_shapes.proofs.ReaderLemmas.{node_here, node_in}
use Rattle.tree_shapes.proofs.SettleLemmas.{HasNode, node_there}
use Rattle.tree_shapes.proofs.TestLemmas.{three}
use Rattle.tree_laws.specs.Entries.{labels_of}
use Rattle.tree_laws.specs.Trees.{top}
use Rattle.recouple.specs.Rotations.{IsPlace}
use Rattle.recouple.proofs.AdmissibleLemmas.{adm, adm_is, and_true}
use Rattle.recouple.proofs.PairLemmas.{left_gap_is, right_gap_is}
use Rattle.charge_project.specs.Weights.{child_label}

-- the gap of a child is one of the tree
child_in : (A : Outline) (i n : ℕ) → i + size A ≤ n + 1 → (g : ℕ) → gap_of A i ≡ Some g → IsPlace n g
child_in Tip i n fits g is = absurd (cc)
child_in (Branch l r) i n fits g is = subst (IsPlace n) (some_inj (i + size l) g is) (record { low = omega (arith, size_above l); high = omega (arith, size_above r) })

node_fits : (t : Outline) (k : ℕ) (n : HasNode t 0 k) → place n.around 0 + (size n.left + size n.right) ≤ size t
node_fits t k n = omega (arith, place_below n.around (Branch n.left n.right) 0, ap size n.is)

module _ (t : Outline) (k : ℕ) (low : 0 < k) (high : k < size t) where
  pub left_in : (g : ℕ) → left_gap t k ≡ Some g → IsPlace (size t - 1) g
  left_in g there =
      let n = node_there t 0 k low (omega arith) in
      child_in n.left (place n.around 0) (size t - 1) (omega (arith, node_fits t k n)) g (sym (left_gap_is t k n) ∙ there)

  pub right_in : (g : ℕ) → right_gap t k ≡ Some g → IsPlace (size t - 1) g
  right_in g there =
      let n = node_there t 0 k low (omega arith) in
      child_in n.right (place n.around 0 + size n.left) (size t - 1) (omega (arith, node_fits t k n)) g (sym (right_gap_is t k n) ∙ there)

-- a node beside the top is in one of the two children
module _ (l r : Outline) (i k : ℕ) where
  pub node_on_left : i < k → k < i + size l → node_at (Branch l r) i k ≡ node_at l i k
  node_on_left above below = node_in (OnLeft Hole r) l i k above below

  pub node_on_right : i + size l < k → k < i + (size l + size r) → node_at (Branch l r) i k ≡ node_at r (i + size l) k
  node_on_right above below = node_in (OnRight l Hole) r i k above (omega arith)

module _ (strands key : List ℕ) where
  -- the labels at the tops of the children of the node at gap k, which is the top of this tree
  abbrev pub left_label : ℕ → Standing → ℕ
  left_label k s = child_label strands key (k - 1) (left_under s.tree s.start)

  abbrev pub right_label : ℕ → Standing → ℕ
  right_label k s = child_label strands key k (right_under s.tree s.start)

  top_left : (A : Outline) (i : ℕ) → child_label strands key ((i + size A) - 1) (gap_of A i) ≡ top A (slice_index strands) (labels_of key) i
  top_left Tip i = ap (slice_index strands) (omega arith)
  top_left (Branch l r) i = refl

  top_right : (A : Outline) (i : ℕ) → child_label strands key i (gap_of A i) ≡ top A (slice_index strands) (labels_of key) i
  top_right Tip i = refl
  top_right (Branch l r) i = refl

  module _ (l r : Outline) (i : ℕ) where
    pub left_here : left_label (i + size l) (node_at (Branch l r) i (i + size l)) ≡ top l (slice_index strands) (labels_of key) i
    left_here = ap (left_label (i + size l)) (node_here l r i (i + size l) refl) ∙ top_left l i

    pub right_here : right_label (i + size l) (node_at (Branch l r) i (i + size l)) ≡ top r (slice_index strands) (labels_of key) (i + size l)
    right_here = ap (right_label (i + size l)) (node_here l r i (i + size l) refl) ∙ top_right r (i + size l)

  -- the labels at a node of an admissible tree fuse
  module _ {E : Type 0} (c : Symbols E) where
    abbrev fuses_under : ℕ → Standing → Type 0
    fuses_under k s = c.fuse (left_label k s) (right_label k s) (slice_index key (k - 1)) ≡ true

    fuses_at : (t : Outline) (i k : ℕ) → i < k → k < i + size t → adm c (slice_index strands) t (labels_of key) i ≡ true → fuses_under k (node_at t i k)
    fuses_at Tip i k above below is = absurd (omega arith)
    fuses_at (Branch l r) i k above below is =
        let x = labels_of key in
        let st = slice_index strands in
        let one = and_true (c.fuse (top l st x i) (top r st x (i + size l)) (x (i + size l))) (adm c st l x i && adm c st r x (i + size l)) is in
        let two = and_true (adm c st l x i) (adm c st r x (i + size l)) one.1 in
        elim (three k (i + size l)) [
          | inl lower ↦ subst (fuses_under k) (sym (node_on_left l r i k above lower)) (fuses_at l i k above lower two.0)
          | inr rest ↦ elim rest [
            | inl here ↦ subst (λ (g : ℕ). fuses_under g (node_at (Branch l r) i g)) (sym here) ((λ j. c.fuse (left_here l r i j) (right_here l r i j) (x (i + size l))) ∙ one.0)
            | inr higher ↦ subst (fuses_under k) (sym (node_on_right l r i k higher below)) (fuses_at r (i + size l) k higher (omega arith) two.1)
          ]
        ]

    pub node_fuses : (t : Outline) (k : ℕ) → 0 < k → k < size t → is_admissible c.fuse (with_labels t strands key) ≡ true
        → c.fuse (child_label strands key (k - 1) (left_gap t k)) (child_label strands key k (right_gap t k)) (slice_index key (k - 1)) ≡ true
    node_fuses t k low high is = fuses_at t 0 k low (omega arith) (sym (adm_is c (slice_index strands) t (labels_of key) 0) ∙ is)
