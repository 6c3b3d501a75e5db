-- The weight of a state, evaluated: which products, conjugates and sums arise, in their order.
use Rattle.std.specs.Prelude.{ℕ, ◌-◌, List, Option, Some, None, slice_index}
use Rattle.ring_laws.specs.Ring.{Ring}
use Rattle.ring_laws.specs.Stated.{◌>>=◌, conjugate_at, product_at, sum_at, steps, steps_over}
use Rattle.symbol_table.specs.Symbols.{Symbols}
use Rattle.tree_shapes.specs.Outlines.{size, left_gap, right_gap}
use Rattle.recouple.specs.States.{State}

-- the label at the top of a child: that of its gap, or where it is a strand that of the strand, counted from 0
abbrev pub child_label : List ℕ → List ℕ → ℕ → Option ℕ → ℕ
child_label strands key strand None = slice_index strands strand
child_label strands key strand (Some g) = slice_index key (g - 1)

-- w(l,r,q) of the node at gap k: q is its label, and l and r are the labels at the tops of its left and right child
abbrev pub node_weight : {E : Type 0} → Symbols E → State E → List ℕ → ℕ → E
node_weight c s key k =
    c.w (child_label s.strands key (k - 1) (left_gap s.shape k)) (child_label s.strands key k (right_gap s.shape k)) (slice_index key (k - 1))

-- the product of the weights of a key's nodes, in the order of their gaps, begun at one
abbrev pub key_weight : {E : Type 0} → Symbols E → State E → List ℕ → Option E
key_weight c s key = steps (λ k weights. product_at c.ring weights (node_weight c s key k)) 1 (size s.shape - 1) c.ring.one

-- one term more: the conjugate of the amplitude, the amplitude times it, the product of the weights times that, the sum
abbrev pub term_added : {E : Type 0} → Ring E → E → E → E → Option E
term_added r weights amplitude sum = do
  turned ← conjugate_at r amplitude
  square ← product_at r amplitude turned
  term ← product_at r weights square
  sum_at r sum term

-- the term of one key, whose weights come first
abbrev pub weight_step : {E : Type 0} → Symbols E → State E → List ℕ × E → E → Option E
weight_step c s e sum = do
  weights ← key_weight c s e.0
  term_added c.ring weights e.1 sum

-- the weight, by prefix sums over the keys in their order, begun at zero
abbrev pub stated_weight : {E : Type 0} → Symbols E → State E → Option E
stated_weight c s = steps_over (weight_step c s) s.amps c.ring.zero
