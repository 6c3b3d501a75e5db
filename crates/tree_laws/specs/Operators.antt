-- What braids and measurements are on vectors. A vector is a function of the labels along the path.
use Rattle.std.specs.Prelude.{ℕ, ◌+◌}
use Rattle.ring_laws.specs.Sums.{total}
use Rattle.symbol_table.specs.Symbols.{Symbols}
use Rattle.tree_laws.specs.Trees.{put}

-- B(t,u) = sum over q of F(p,a,b,y;t,q) R(a,b,q) H(p,b,a,y;q,u), with R or S as exchange
abbrev pub braid_by : {E : Type 0} → Symbols E → (ℕ → ℕ → ℕ → E) → ℕ → ℕ → ℕ → ℕ → ℕ → ℕ → E
braid_by c exchange p a b y t u =
    total c.ring c.count (λ q. c.ring.product (c.ring.product (c.f p a b y t q) (exchange a b q)) (c.h p b a y q u))

-- the strands i + 1 and i + 2 swapped, which gap i + 1 lies between
abbrev pub swapped : ℕ → (ℕ → ℕ) → ℕ → ℕ
swapped i strand = put i (strand (i + 1)) (put (i + 1) (strand i) strand)

-- the braid at gap i + 1
abbrev pub braided : {E : Type 0} → Symbols E → (ℕ → ℕ → ℕ → E) → (ℕ → ℕ) → ℕ → ((ℕ → ℕ) → E) → (ℕ → ℕ) → E
braided c exchange strand i v x =
    total c.ring c.count (λ t.
    c.ring.product (braid_by c exchange (x i) (strand i) (strand (i + 1)) (x (i + 2)) t (x (i + 1))) (v (put (i + 1) t x)))

-- the projection at gap i + 1 on the charge q
abbrev pub projected : {E : Type 0} → Symbols E → (ℕ → ℕ) → ℕ → ℕ → ((ℕ → ℕ) → E) → (ℕ → ℕ) → E
projected c strand i q v x =
    total c.ring c.count (λ t.
    c.ring.product (c.ring.product (c.f (x i) (strand i) (strand (i + 1)) (x (i + 2)) t q) (c.h (x i) (strand i) (strand (i + 1)) (x (i + 2)) q (x (i + 1)))) (v (put (i + 1) t x)))
