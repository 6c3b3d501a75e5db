-- The raises that make a node a pair.
use Rattle.std.specs.Prelude.{◌≡◌, ℕ, ◌+◌, Bool, true, ◌&&◌, Option, Some, List, [], ◌∷◌, ◌++◌}
use Rattle.std.specs.Option.{is_none, option_or}
use Rattle.tree_shapes.specs.Outlines.{Outline, Tip, Branch, size, node_at, left_gap, right_gap, raise_at}

-- whether both children of the node at gap k are strands
abbrev pub is_pair_at : Outline → ℕ → Bool
is_pair_at t k = is_none (left_gap t k) && is_none (right_gap t k)

-- the node that is raised next, so that the one at gap k becomes a pair: its left child, or else its right child
abbrev pub next_raise : Outline → ℕ → Option ℕ
next_raise t k = option_or (left_gap t k) (right_gap t k)

-- These are the raises, one after another, until the node at gap k is a pair.
abbrev pub Settles : ℕ → Outline → List ℕ → Type 0
Settles k t [] = is_pair_at t k ≡ true
Settles k t (g ∷ gs) = (next_raise t k ≡ Some g) × Settles k (raise_at g t 0) gs

-- the gaps from the top of a tree along right children, where its first strand is strand i + 1
abbrev pub right_spine : Outline → ℕ → List ℕ
right_spine Tip i = []
right_spine (Branch l r) i = (i + size l) ∷ right_spine r (i + size l)

-- the same along left children
abbrev pub left_spine : Outline → ℕ → List ℕ
left_spine Tip i = []
left_spine (Branch l r) i = (i + size l) ∷ left_spine l i

-- what stands between the two strands at a node and the node
abbrev pub spines : Outline → ℕ → List ℕ
spines Tip i = []
spines (Branch l r) i = right_spine l i ++ left_spine r (i + size l)

-- the gaps to raise, so that the node at gap k becomes a pair
abbrev pub settle_gaps : Outline → ℕ → List ℕ
settle_gaps t k = let s = node_at t 0 k in spines s.tree s.start
