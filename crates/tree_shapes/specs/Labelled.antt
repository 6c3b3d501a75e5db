-- Labelled fusion trees.
use Rattle.std.specs.Prelude.{ℕ, ◌+◌, List, [], ◌∷◌, ◌++◌, Bool, true, false, ◌&&◌}

-- A labelled fusion tree: a strand with its label, or two trees joined in a node with the label of its charge.
pub data Labelled : Type 0 where
  Strand : (a : ℕ) → Labelled
  Joined : (left right : Labelled) (q : ℕ) → Labelled

-- the label at the top
abbrev pub label : Labelled → ℕ
label (Strand a) = a
label (Joined l r q) = q

-- the labels of the strands, from left to right
abbrev pub leaves : Labelled → List ℕ
leaves (Strand a) = a ∷ []
leaves (Joined l r q) = leaves l ++ leaves r

-- the labels of the nodes, by their gaps from left to right
abbrev pub node_labels : Labelled → List ℕ
node_labels (Strand a) = []
node_labels (Joined l r q) = node_labels l ++ q ∷ node_labels r

-- how many strands there are
abbrev pub size : Labelled → ℕ
size (Strand a) = 1
size (Joined l r q) = size l + size r

abbrev pub is_strand : Labelled → Bool
is_strand (Strand a) = true
is_strand (Joined l r q) = false

-- whether every right child is a strand
abbrev pub is_left_comb : Labelled → Bool
is_left_comb (Strand a) = true
is_left_comb (Joined l r q) = is_strand r && is_left_comb l

-- whether every node's label occurs in the product of its children's labels
abbrev pub is_admissible : (ℕ → ℕ → ℕ → Bool) → Labelled → Bool
is_admissible fuse (Strand a) = true
is_admissible fuse (Joined l r q) = fuse (label l) (label r) q && (is_admissible fuse l && is_admissible fuse r)
