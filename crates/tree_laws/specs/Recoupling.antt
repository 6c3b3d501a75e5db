-- The amplitudes after a recoupling.
use Rattle.std.specs.Prelude.{ℕ, ◌+◌}
use Rattle.ring_laws.specs.Sums.{total}
use Rattle.symbol_table.specs.Symbols.{Symbols}
use Rattle.tree_shapes.specs.Outlines.{Outline, size}
use Rattle.tree_laws.specs.Trees.{top, put}

-- The labels after a node and its parent were recoupled: the label of u goes to v, and u has t.
abbrev pub turned : ℕ → ℕ → (ℕ → ℕ) → ℕ → ℕ → ℕ
turned u v key t = put u t (put v (key u) key)

-- The amplitudes after the node at gap k, the left child of that at gap p, was raised: the sum over e of F(a,b,c,d;e,f) times the old one.
-- The strands of A begin at i + 1. Then k has the label d, and p has f.
abbrev pub raised_left : {E : Type 0} → Symbols E → Outline → Outline → Outline → ℕ → (ℕ → ℕ) → ((ℕ → ℕ) → E) → (ℕ → ℕ) → E
raised_left c A B C i strand value key =
    let k = i + size A in
    let p = k + size B in
    total c.ring c.count (λ e.
    c.ring.product (c.f (top A strand key i) (top B strand key k) (top C strand key p) (key k) e (key p)) (value (turned k p key e)))

-- The same where k is the right child of p: the sum over f of H(a,b,c,d;f,e) times the old one.
-- Then k has the label d, and p has e. Here p comes before k.
abbrev pub raised_right : {E : Type 0} → Symbols E → Outline → Outline → Outline → ℕ → (ℕ → ℕ) → ((ℕ → ℕ) → E) → (ℕ → ℕ) → E
raised_right c A B C i strand value key =
    let p = i + size A in
    let k = p + size B in
    total c.ring c.count (λ f.
    c.ring.product (c.h (top A strand key i) (top B strand key p) (top C strand key k) (key k) f (key p)) (value (turned k p key f)))
