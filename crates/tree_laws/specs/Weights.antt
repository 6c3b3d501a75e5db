-- Weights of paths and of trees.
use Rattle.std.specs.Prelude.{ℕ, zero, suc, ◌+◌, ◌-◌}
use Rattle.symbol_table.specs.Symbols.{Symbols}
use Rattle.tree_shapes.specs.Outlines.{Outline, Tip, Branch, size}
use Rattle.tree_laws.specs.Trees.{top, at_gaps}

-- the product of the weights along n strands of a path, from strand i + 1 on
abbrev pub along : {E : Type 0} → Symbols E → (ℕ → ℕ) → (ℕ → ℕ) → ℕ → ℕ → E
along c strand x i zero = c.ring.one
along c strand x i (suc n) = c.ring.product (along c strand x i n) (c.w (x (i + n)) (strand (i + n)) (x ((i + n) + 1)))

-- the weights of a tree's nodes
abbrev pub tree_weight : {E : Type 0} → Symbols E → Outline → (ℕ → ℕ) → (ℕ → ℕ) → ℕ → E
tree_weight c Tip strand key i = c.ring.one
tree_weight c (Branch l r) strand key i =
    let k = i + size l in
    c.ring.product (c.ring.product (tree_weight c l strand key i) (tree_weight c r strand key k)) (c.w (top l strand key i) (top r strand key k) (key k))

-- The weight of a vector over n strands: the sum over all labels along the path of the path's weight times
-- v(x) conj(v(x)).
abbrev pub weight : {E : Type 0} → Symbols E → ℕ → (ℕ → ℕ) → ((ℕ → ℕ) → E) → E
weight c n strand v =
    at_gaps c n (λ x. c.ring.product (along c strand x 0 n) (c.ring.product (v x) (c.ring.conjugate (v x)))) (λ _. 0)

-- The weight of a state: the sum over all keys of the tree's weight times the amplitude and its conjugate.
abbrev pub state_weight : {E : Type 0} → Symbols E → Outline → (ℕ → ℕ) → ((ℕ → ℕ) → E) → E
state_weight c shape strand value =
    at_gaps c (size shape - 1) (λ key. c.ring.product (tree_weight c shape strand key 0) (c.ring.product (value key) (c.ring.conjugate (value key)))) (λ _. 0)
