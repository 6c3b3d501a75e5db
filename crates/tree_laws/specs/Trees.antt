-- What a fusion tree stands for: everything is a function of a place, strands from 0, paths and gaps by their number.
use Rattle.std.specs.Prelude.{ℕ, zero, suc, ◌+◌, ◌-◌, ◌==◌, if◌then◌else◌}
use Rattle.ring_laws.specs.Sums.{total}
use Rattle.symbol_table.specs.AllLabels.{mark}
use Rattle.symbol_table.specs.Symbols.{Symbols}
use Rattle.tree_shapes.specs.Outlines.{Outline, Tip, Branch, size}

-- The label at the top of a tree whose first strand is strand i + 1. Node labels go by gap, strands from 0.
abbrev pub top : Outline → (ℕ → ℕ) → (ℕ → ℕ) → ℕ → ℕ
top Tip strand key i = strand i
top (Branch l r) strand key i = key (i + size l)

-- The path amplitude of a tree whose first strand is strand i + 1, along the path x.
abbrev pub amplitude : {E : Type 0} → Symbols E → Outline → (ℕ → ℕ) → (ℕ → ℕ) → (ℕ → ℕ) → ℕ → E
amplitude c Tip strand x key i = mark c (c.fuse (x i) (strand i) (x (i + 1)))
amplitude c (Branch l r) strand x key i =
    let k = i + size l in
    c.ring.product
    (c.ring.product (c.h (x i) (top l strand key i) (top r strand key k) (x (k + size r)) (key k) (x k)) (amplitude c l strand x key i))
    (amplitude c r strand x key k)

-- the labels with t at gap k
abbrev pub put : ℕ → ℕ → (ℕ → ℕ) → ℕ → ℕ
put k t key j = if j == k then t else key j

-- the sum over all labels at one gap
abbrev pub at_gap : {E : Type 0} → Symbols E → ℕ → ((ℕ → ℕ) → E) → (ℕ → ℕ) → E
at_gap c k G key = total c.ring c.count (λ t. G (put k t key))

-- the sum over all labels at the gaps 1 to n
abbrev pub at_gaps : {E : Type 0} → Symbols E → ℕ → ((ℕ → ℕ) → E) → (ℕ → ℕ) → E
at_gaps c zero G key = G key
at_gaps c (suc n) G key = at_gaps c n (at_gap c (suc n) G) key

-- What a state stands for: the sum over all keys of the amplitude times the path amplitude.
abbrev pub stands_for : {E : Type 0} → Symbols E → Outline → (ℕ → ℕ) → ((ℕ → ℕ) → E) → (ℕ → ℕ) → E
stands_for c shape strand value x =
    at_gaps c (size shape - 1) (λ key. c.ring.product (value key) (amplitude c shape strand x key 0)) (λ _. 0)
