-- The children of a node, and a node over two strands.
use Rattle.std.proofs.Common.{◌≡◌, ℕ, ◌+◌, ◌-◌, ◌<◌, true, List, ap, sym, ◌∙◌, arith, slice_index}
use Rattle.std.specs.Prelude.{◌&&◌}
use Rattle.std.specs.Option.{is_none}
use Rattle.symbol_table.specs.Symbols.{Symbols}
use Rattle.tree_shapes.specs.Contexts.{Around, fill, place}
use Rattle.tree_shapes.specs.Labelled.{is_admissible}
use Rattle.tree_shapes.specs.Outlines.{Outline, Tip, Branch, Standing, size, gap_of, left_gap, left_under, right_gap, right_under, with_labels}
use Rattle.tree_shapes.specs.Settling.{is_pair_at}
use Rattle.tree_shapes.proofs.SettleLemmas.{HasNode, node_there, node_filled}
use Rattle.tree_laws.specs.Entries.{labels_of}
use Rattle.tree_laws.specs.Laws.{pair}
use Rattle.recouple.proofs.AdmissibleLemmas.{adm_is, and_true}
use Rattle.recouple.proofs.SomeLemmas.{adm_part}

-- the children of the node at a gap
pub left_gap_is : (t : Outline) (k : ℕ) (n : HasNode t 0 k) → left_gap t k ≡ gap_of n.left (place n.around 0)
left_gap_is t k n = ap (λ u. left_gap u k) n.is ∙ ap (λ (s : Standing). left_under s.tree s.start) (node_filled n.around n.left n.right k n.gap)

pub right_gap_is : (t : Outline) (k : ℕ) (n : HasNode t 0 k) → right_gap t k ≡ gap_of n.right (place n.around 0 + size n.left)
right_gap_is t k n = ap (λ u. right_gap u k) n.is ∙ ap (λ (s : Standing). right_under s.tree s.start) (node_filled n.around n.left n.right k n.gap)

-- a node over two strands is a pair in its surroundings
pub record IsPair (t : Outline) (k : ℕ) : Type 0 where
  pub around : Around
  pub is : t ≡ fill around pair
  pub gap : k ≡ place around 0 + 1

pair_by : (a : Around) (l r : Outline) (t : Outline) (k : ℕ) → t ≡ fill a (Branch l r) → k ≡ place a 0 + size l → (is_none (gap_of l (place a 0)) && is_none (gap_of r (place a 0 + size l))) ≡ true → IsPair t k
pair_by a Tip Tip t k is gap h = record { around = a; is = is; gap = gap }
pair_by a Tip (Branch r r') t k is gap h = absurd (cc)
pair_by a (Branch l l') r t k is gap h = absurd (cc)

pub pair_there : (t : Outline) (k : ℕ) → 0 < k → k < size t → is_pair_at t k ≡ true → IsPair t k
pair_there t k low high h =
    let n = node_there t 0 k low (omega arith) in
    pair_by n.around n.left n.right t k n.is n.gap ((λ j. is_none (sym (left_gap_is t k n) j) && is_none (sym (right_gap_is t k n) j)) ∙ h)

-- the strands of a pair fuse to its label
pub pair_fuses : {E : Type 0} (c : Symbols E) (strands key : List ℕ) (t : Outline) (k : ℕ) → IsPair t k → is_admissible c.fuse (with_labels t strands key) ≡ true
    → c.fuse (slice_index strands (k - 1)) (slice_index strands k) (slice_index key (k - 1)) ≡ true
pair_fuses c strands key t k at is =
    let i = place at.around 0 in
    let whole = sym (adm_is c (slice_index strands) (fill at.around pair) (labels_of key) 0) ∙ (ap (λ u. is_admissible c.fuse (with_labels u strands key)) (sym at.is) ∙ is) in
    let inner = adm_part c (slice_index strands) (labels_of key) at.around pair 0 whole in
    let here = and_true (c.fuse (slice_index strands i) (slice_index strands (i + 1)) (labels_of key (i + 1))) _ inner in
    let first : k - 1 ≡ place at.around 0 = omega (arith, at.gap) in
    let label : k - 1 ≡ (place at.around 0 + 1) - 1 = omega (arith, at.gap) in
    (λ j. c.fuse (slice_index strands (first j)) (slice_index strands (at.gap j)) (slice_index key (label j))) ∙ here.0
