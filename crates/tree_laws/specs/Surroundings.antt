-- The amplitude of what is around a hole in a tree.
use Rattle.std.specs.Prelude.{ℕ, ◌+◌}
use Rattle.symbol_table.specs.Symbols.{Symbols}
use Rattle.tree_shapes.specs.Contexts.{Around, Hole, OnLeft, OnRight}
use Rattle.tree_shapes.specs.Outlines.{size}
use Rattle.tree_laws.specs.Trees.{top, amplitude}

-- the size of a filled tree, and its top label, by those of what fills the hole
abbrev pub size_in : Around → ℕ → ℕ
size_in Hole n = n
size_in (OnLeft a r) n = size_in a n + size r
size_in (OnRight l a) n = size l + size_in a n

abbrev pub top_in : Around → ℕ → ℕ → (ℕ → ℕ) → ℕ → ℕ
top_in Hole q n key i = q
top_in (OnLeft a r) q n key i = key (i + size_in a n)
top_in (OnRight l a) q n key i = key (i + size l)

-- The amplitude of a tree with a hole, whose hole has the top label q and n strands.
abbrev pub around : {E : Type 0} → Symbols E → Around → ℕ → ℕ → (ℕ → ℕ) → (ℕ → ℕ) → (ℕ → ℕ) → ℕ → E
around c Hole q n strand x key i = c.ring.one
around c (OnLeft a r) q n strand x key i =
    let k = i + size_in a n in
    c.ring.product
    (c.ring.product (c.h (x i) (top_in a q n key i) (top r strand key k) (x (k + size r)) (key k) (x k)) (around c a q n strand x key i))
    (amplitude c r strand x key k)
around c (OnRight l a) q n strand x key i =
    let k = i + size l in
    c.ring.product
    (c.ring.product (c.h (x i) (top l strand key i) (top_in a q n key k) (x (k + size_in a n)) (key k) (x k)) (amplitude c l strand x key i))
    (around c a q n strand x key k)
