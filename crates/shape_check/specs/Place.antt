-- The places of labels in a list.
use Rattle.std.specs.Prelude.{ℕ, ◌+◌, ◌*◌, ◌/◌, ◌%◌}
use Rattle.symbol_table.specs.declared.index.FIndex.{FIndex}
use Rattle.symbol_table.specs.declared.index.VIndex.{VIndex}

-- three labels as the digits of a number, the first label slowest
abbrev pub three_place : ℕ → ℕ → ℕ → ℕ → ℕ
three_place n a b c = (a * n + b) * n + c

-- six labels in the same way
abbrev pub six_place : ℕ → ℕ → ℕ → ℕ → ℕ → ℕ → ℕ → ℕ
six_place n a b c d e f = ((((a * n + b) * n + c) * n + d) * n + e) * n + f

-- how many places three labels have
abbrev pub three : ℕ → ℕ
three n = n * n * n

-- how many places six labels have
abbrev pub six : ℕ → ℕ
six n = n * n * n * n * n * n

-- the three labels at a place
abbrev pub three_at : ℕ → ℕ → VIndex
three_at n k = record {
  a = k / n / n % n;
  b = k / n % n;
  c = k % n;
}

-- the six labels at a place
abbrev pub six_at : ℕ → ℕ → FIndex
six_at n k = record {
  a = k / n / n / n / n / n % n;
  b = k / n / n / n / n % n;
  c = k / n / n / n % n;
  d = k / n / n % n;
  e = k / n % n;
  f = k % n;
}
