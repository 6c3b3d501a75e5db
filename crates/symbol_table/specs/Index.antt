-- Indices of symbols, their labels and their order.
use Rattle.std.specs.Prelude.{ℕ, ◌<◌, Bool, ◌&&◌, ◌==◌}
use Rattle.std.specs.Ordering.{nat_cmp, ordering_then}
use Rattle.std.specs.declared.cmp.Ordering.{Ordering}
use Rattle.symbol_table.specs.declared.index.FIndex.{FIndex}
use Rattle.symbol_table.specs.declared.index.VIndex.{VIndex}

-- six labels below a count
abbrev pub AreSixLabels : ℕ → ℕ → ℕ → ℕ → ℕ → ℕ → ℕ → Type 0
AreSixLabels n a b c d e f = (a < n) × (b < n) × (c < n) × (d < n) × (e < n) × (f < n)

-- three labels below a count
abbrev pub AreThreeLabels : ℕ → ℕ → ℕ → ℕ → Type 0
AreThreeLabels n a b c = (a < n) × (b < n) × (c < n)

abbrev pub f_index : ℕ → ℕ → ℕ → ℕ → ℕ → ℕ → FIndex
f_index a b c d e f = record { a = a; b = b; c = c; d = d; e = e; f = f }

abbrev pub v_index : ℕ → ℕ → ℕ → VIndex
v_index a b c = record { a = a; b = b; c = c }

-- the order of the label numbers, the first label slowest
abbrev pub f_cmp : FIndex → FIndex → Ordering
f_cmp x y =
    ordering_then (nat_cmp x.a y.a)
    (ordering_then (nat_cmp x.b y.b)
    (ordering_then (nat_cmp x.c y.c) (ordering_then (nat_cmp x.d y.d) (ordering_then (nat_cmp x.e y.e) (nat_cmp x.f y.f)))))

abbrev pub v_cmp : VIndex → VIndex → Ordering
v_cmp x y = ordering_then (nat_cmp x.a y.a) (ordering_then (nat_cmp x.b y.b) (nat_cmp x.c y.c))

-- two indices have the same labels
abbrev pub f_same : FIndex → FIndex → Bool
f_same x y = x.a == y.a && (x.b == y.b && (x.c == y.c && (x.d == y.d && (x.e == y.e && x.f == y.f))))

abbrev pub v_same : VIndex → VIndex → Bool
v_same x y = x.a == y.a && (x.b == y.b && x.c == y.c)
