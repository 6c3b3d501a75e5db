-- What labelled trees and states stand for.
use Rattle.std.specs.Prelude.{ℕ, ◌+◌, List, [], ◌∷◌, ◌++◌, if◌then◌else◌, slice_index}
use Rattle.std.specs.Str.{bytes_eq}
use Rattle.ring_laws.specs.Ring.{Ring}
use Rattle.ring_laws.specs.Sums.{sum_over}
use Rattle.symbol_table.specs.Symbols.{Symbols}
use Rattle.tree_shapes.specs.Labelled.{Labelled, Strand, Joined, label, leaves, size}
use Rattle.comb_laws.specs.Paths.{Path, Vector, is_path}

-- The path amplitude of a labelled tree whose first strand is strand i + 1, along the labels x of a path by place:
-- H(x_i,l,r,x_(i+n);q,x_(i+m)) for a node with label q over m and n - m strands, whose children have the labels l and r.
abbrev pub path_amplitude : {E : Type 0} → Symbols E → Labelled → (ℕ → ℕ) → ℕ → E
path_amplitude c (Strand a) x i = if c.fuse (x i) a (x (i + 1)) then c.ring.one else c.ring.zero
path_amplitude c (Joined l r q) x i =
    let k = i + size l in
    c.ring.product
    (c.ring.product (c.h (x i) (label l) (label r) (x (k + size r)) q (x k)) (path_amplitude c l x i))
    (path_amplitude c r x k)

-- What a state stands for: at each path the sum over its keys of the key's amplitude times that of the tree with
-- this key's labels.
abbrev pub stands_for : {E K : Type 0} → Symbols E → List ℕ → (K → Labelled) → List (K × E) → Vector E
stands_for c strands labelled entries x =
    if is_path c strands x
    then sum_over c.ring (λ e. c.ring.product e.1 (path_amplitude c (labelled e.0) (slice_index x) 0)) entries
    else c.ring.zero

-- The start vector of a tree: at each path over its strands the tree's path amplitude from the unit.
abbrev pub start_vector : {E : Type 0} → Symbols E → Labelled → Vector E
start_vector c tree x =
    if is_path c (leaves tree) x then path_amplitude c tree (slice_index x) 0 else c.ring.zero

-- the path of a left-combed tree's own labels
abbrev pub own_path : Labelled → Path
own_path (Strand a) = 0 ∷ a ∷ []
own_path (Joined l r q) = own_path l ++ q ∷ []

-- the vector that is one at a left-combed tree's own path, and zero elsewhere
abbrev pub own_vector : {E : Type 0} → Ring E → Labelled → Vector E
own_vector r tree x = if bytes_eq (own_path tree) x then r.one else r.zero
