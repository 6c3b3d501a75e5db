-- Fusion trees without labels.
use Rattle.std.specs.Prelude.{ℕ, ◌+◌, ◌-◌, ◌==◌, nat_lt, if◌then◌else◌, Option, Some, None, List, slice_index}
use Rattle.tree_shapes.specs.Labelled.{Labelled, Strand, Joined}

-- A tree over strands, without labels: one strand, or two trees joined in a node. Strands and gaps are told by their
-- number from the left: a node over a tree whose first strand is strand i + 1 stands at gap i + the strands of its left child.
pub data Outline : Type 0 where
  Tip : Outline
  Branch : (left right : Outline) → Outline

-- how many strands the tree has
abbrev pub size : Outline → ℕ
size Tip = 1
size (Branch l r) = size l + size r

-- the gap of the top node of a tree whose first strand is strand i + 1
abbrev pub top_gap : Outline → ℕ → ℕ
top_gap Tip i = i
top_gap (Branch l r) i = i + size l

abbrev pub turn_right : Outline → Outline → Outline
turn_right Tip C = Branch Tip C
turn_right (Branch A B) C = Branch A (Branch B C)

abbrev pub turn_left : Outline → Outline → Outline
turn_left A Tip = Branch A Tip
turn_left A (Branch B C) = Branch (Branch A B) C

-- the tree after the node at gap k was raised over its parent, where its first strand is strand i + 1
abbrev pub raise_at : ℕ → Outline → ℕ → Outline
raise_at k Tip i = Tip
raise_at k (Branch l r) i =
    let m = i + size l in
    if nat_lt k m then (if k == top_gap l i then turn_right l r else Branch (raise_at k l i) r)
    else (if nat_lt m k then (if k == top_gap r m then turn_left l r else Branch l (raise_at k r m)) else Branch l r)

-- A tree whose first strand is strand start + 1.
pub record Standing : Type 0 where
  pub start : ℕ
  pub tree : Outline

-- the part of a tree whose top is the node at gap k
abbrev pub node_at : Outline → ℕ → ℕ → Standing
node_at Tip i k = record { start = i; tree = Tip }
node_at (Branch l r) i k =
    let m = i + size l in
    if nat_lt k m then node_at l i k else (if nat_lt m k then node_at r m k else record { start = i; tree = Branch l r })

-- the gap of the top node, if there is one
abbrev pub gap_of : Outline → ℕ → Option ℕ
gap_of Tip i = None
gap_of (Branch l r) i = Some (i + size l)

abbrev pub left_under : Outline → ℕ → Option ℕ
left_under Tip i = None
left_under (Branch l r) i = gap_of l i

abbrev pub right_under : Outline → ℕ → Option ℕ
right_under Tip i = None
right_under (Branch l r) i = gap_of r (i + size l)

-- the gap of the left child of the node at gap k, None where that child is a strand
abbrev pub left_gap : Outline → ℕ → Option ℕ
left_gap t k = let s = node_at t 0 k in left_under s.tree s.start

-- the same of the right child
abbrev pub right_gap : Outline → ℕ → Option ℕ
right_gap t k = let s = node_at t 0 k in right_under s.tree s.start

-- the gap of the parent of the node at gap k, None at the top
abbrev pub parent_at : Outline → ℕ → ℕ → Option ℕ
parent_at Tip i k = None
parent_at (Branch l r) i k =
    let m = i + size l in
    if nat_lt k m then (if k == top_gap l i then Some m else parent_at l i k)
    else (if nat_lt m k then (if k == top_gap r m then Some m else parent_at r m k) else None)

abbrev pub parent_gap : Outline → ℕ → Option ℕ
parent_gap t k = parent_at t 0 k

-- the tree with labels, of strands by place from 0 and of nodes by gap
abbrev pub labelled_at : Outline → (ℕ → ℕ) → (ℕ → ℕ) → ℕ → Labelled
labelled_at Tip strand key i = Strand (strand i)
labelled_at (Branch l r) strand key i = Joined (labelled_at l strand key i) (labelled_at r strand key (i + size l)) (key (i + size l))

-- the tree with the labels of these strands and of a key, whose place g - 1 has the label of gap g
abbrev pub with_labels : Outline → List ℕ → List ℕ → Labelled
with_labels t strands key = labelled_at t (slice_index strands) (λ g. slice_index key (g - 1)) 0

-- the outline of a labelled tree
abbrev pub outline_of : Labelled → Outline
outline_of (Strand a) = Tip
outline_of (Joined l r q) = Branch (outline_of l) (outline_of r)
