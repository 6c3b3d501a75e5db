-- Trees as links by gap.
use Rattle.std.specs.Prelude.{Option, Some, None, ◌≡◌, ◌≢◌, ◌⊎◌, ℕ, zero, suc, ◌+◌, ◌<◌, ◌≤◌, ◌==◌, if◌then◌else◌, List, [], ◌∷◌, slice_index}
use Rattle.tree_shapes.specs.Outlines.{Outline, Tip, Branch, size}
use Rattle.tree_shapes.specs.declared.limits.TheConstants.{STRAND_LIMIT}

-- The links of each gap: the gaps of its node's children and parent, 0 for a strand and for no parent. The node at the top
-- is the right child of gap 0, which is no node.
pub record Rows : Type 0 where
  pub left : ℕ → ℕ
  pub right : ℕ → ℕ
  pub parent : ℕ → ℕ

abbrev pub rows_of : List ℕ → List ℕ → List ℕ → Rows
rows_of left right parent = record { left = slice_index left; right = slice_index right; parent = slice_index parent }

-- the gap of the top of a tree whose first strand is strand i + 1, 0 for a strand
abbrev pub link_to : Outline → ℕ → ℕ
link_to Tip i = 0
link_to (Branch l r) i = i + size l

-- The links of the gaps in a tree whose first strand is strand i + 1 are those of the tree, and its top's parent is this.
abbrev pub Linked : Rows → Outline → ℕ → ℕ → Type 0
Linked rows Tip i up = Unit {0}
Linked rows (Branch l r) i up =
    let m = i + size l in
    (rows.left m ≡ link_to l i) × (rows.right m ≡ link_to r m) × (rows.parent m ≡ up) × Linked rows l i m × Linked rows r m m

-- the tree of the links from a gap on, to a depth
abbrev pub grown : Rows → ℕ → ℕ → Outline
grown rows zero g = Tip
grown rows (suc n) g = if g == 0 then Tip else Branch (grown rows n (rows.left g)) (grown rows n (rows.right g))

-- the tree of all links
abbrev pub outline_in : ℕ → Rows → Outline
outline_in leaves rows = grown rows leaves (rows.right 0)

-- The links are one tree with so many leaves.
pub record AreLinks (n : ℕ) (rows : Rows) (t : Outline) : Type 0 where
  pub top : rows.right 0 ≡ link_to t 0
  pub linked : Linked rows t 0 0
  pub leaves : size t ≡ n

-- The links after the node at gap k, the left child of that at gap p, was raised: b is the right child of k and g the parent of
-- p before. A node below g is its left child, and one above it its right child.
pub record TurnsRight (k p b g : ℕ) (old new : Rows) : Type 0 where
  pub left_k : new.left k ≡ old.left k
  pub right_k : new.right k ≡ p
  pub parent_k : new.parent k ≡ g
  pub left_p : new.left p ≡ b
  pub right_p : new.right p ≡ old.right p
  pub parent_p : new.parent p ≡ k
  pub parent_b : b ≢ 0 → new.parent b ≡ p
  pub above_left : p < g → new.left g ≡ k
  pub above_left_right : p < g → new.right g ≡ old.right g
  pub above_right : g < p → new.right g ≡ k
  pub above_right_left : g < p → new.left g ≡ old.left g
  pub other_left : (j : ℕ) → j ≢ k → j ≢ p → j ≢ g → new.left j ≡ old.left j
  pub other_right : (j : ℕ) → j ≢ k → j ≢ p → j ≢ g → new.right j ≡ old.right j
  pub other_parent : (j : ℕ) → j ≢ k → j ≢ p → j ≢ b → new.parent j ≡ old.parent j

-- the same where it was the right child, whose left child is b
pub record TurnsLeft (k p b g : ℕ) (old new : Rows) : Type 0 where
  pub right_k : new.right k ≡ old.right k
  pub left_k : new.left k ≡ p
  pub parent_k : new.parent k ≡ g
  pub right_p : new.right p ≡ b
  pub left_p : new.left p ≡ old.left p
  pub parent_p : new.parent p ≡ k
  pub parent_b : b ≢ 0 → new.parent b ≡ p
  pub above_left : p < g → new.left g ≡ k
  pub above_left_right : p < g → new.right g ≡ old.right g
  pub above_right : g < p → new.right g ≡ k
  pub above_right_left : g < p → new.left g ≡ old.left g
  pub other_left : (j : ℕ) → j ≢ k → j ≢ p → j ≢ g → new.left j ≡ old.left j
  pub other_right : (j : ℕ) → j ≢ k → j ≢ p → j ≢ g → new.right j ≡ old.right j
  pub other_parent : (j : ℕ) → j ≢ k → j ≢ p → j ≢ b → new.parent j ≡ old.parent j

-- The links are one tree of 2 to STRAND_LIMIT strands.
pub record IsShape (n : ℕ) (rows : Rows) : Type 0 where
  pub some : 2 ≤ n
  pub few : n ≤ STRAND_LIMIT
  pub links : AreLinks n rows (outline_in n rows)

-- a link, None where it is 0
abbrev pub link_in : ℕ → Option ℕ
link_in g = if g == 0 then None else Some g

-- What a rotation of links asks: gaps below the limit, of which no two are the same.
pub record Ready (k p b g : ℕ) : Type 0 where
  pub p_low : p < STRAND_LIMIT
  pub b_low : b < STRAND_LIMIT
  pub g_low : g < STRAND_LIMIT
  pub apart : k ≢ p
  pub g_off_k : g ≢ k
  pub g_off_p : g ≢ p
  pub b_off_k : b ≢ k
  pub b_off_p : b ≢ p

-- The links after a node at a gap was joined to children with the tops a and b, where 0 is a strand.
pub record Joins (gap a b : ℕ) (old new : Rows) : Type 0 where
  pub left_here : new.left gap ≡ a
  pub right_here : new.right gap ≡ b
  pub left_off : (g : ℕ) → g ≢ gap → new.left g ≡ old.left g
  pub right_off : (g : ℕ) → g ≢ gap → new.right g ≡ old.right g
  pub parent_a : a ≢ 0 → new.parent a ≡ gap
  pub parent_b : b ≢ 0 → new.parent b ≡ gap
  pub parent_off : (g : ℕ) → g ≢ a → g ≢ b → new.parent g ≡ old.parent g

-- The links after those of a tree were set whose first strand is strand i + 1. The parent of its top stays open, and all
-- outside the tree stays.
pub record Sets (t : Outline) (i top : ℕ) (old new : Rows) : Type 0 where
  pub top_is : top ≡ link_to t i
  pub linked : Linked new t i (new.parent (link_to t i))
  pub left_off : (g : ℕ) → (g ≤ i) ⊎ (i + size t ≤ g) → new.left g ≡ old.left g
  pub right_off : (g : ℕ) → (g ≤ i) ⊎ (i + size t ≤ g) → new.right g ≡ old.right g
  pub parent_off : (g : ℕ) → 0 < g → (g ≤ i) ⊎ (i + size t ≤ g) → new.parent g ≡ old.parent g

-- the gaps from one on along a row, up to a strand
abbrev pub IsChain : (ℕ → ℕ) → ℕ → List ℕ → Type 0
IsChain next g [] = g ≡ 0
IsChain next g (x ∷ xs) = (g ≡ x) × (0 < x) × (x < STRAND_LIMIT) × IsChain next (next x) xs
