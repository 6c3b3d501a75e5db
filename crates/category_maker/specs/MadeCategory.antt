-- The category of a number: the cyclic group.
use Rattle.std.specs.Prelude.{ℕ, ◌+◌, ◌*◌, ◌%◌, ◌==◌, ◌&&◌, Bool, List, ◌∷◌, map, decimal, Some, None, if◌then◌else◌}
use Rattle.poly_core.specs.Rho.{rho}
use Rattle.cyclo_core.specs.Ratio.{Ratio, reduced}
use Rattle.fusion_rules.specs.Fusion.{are_labels}
use Rattle.category_text.specs.Canonical.{counting}
use Rattle.category_text.specs.Named.{NamedSymbols}

-- `g` and the number of a label
abbrev pub label_name : ℕ → List ℕ
label_name k = 103 ∷ decimal k

-- the names of so many labels
abbrev pub label_names : ℕ → List (List ℕ)
label_names n = map label_name (counting 0 n)

-- the sum of two labels modulo n is the third
abbrev pub group_fuses : ℕ → ℕ → ℕ → ℕ → Bool
group_fuses n a b c = are_labels n a b c && c == (a + b) % n

-- z to a power below n, where z is the root of unity of order n
unfoldable pub root_power : ℕ → ℕ → Ratio
root_power n k = reduced (rho n k) 1

-- The root n, the labels g0 to g(n-1), the triples a, b, (a + b) mod n, and R(a,b,c) the power ab of the root of unity; every
-- other symbol is 1.
abbrev pub made_category : ℕ → NamedSymbols
made_category n = record {
  root = n;
  names = label_names n;
  given = record {
    version = 1;
    count = n;
    fuse = group_fuses n;
    set_f = λ a b c d e f. None;
    set_r = λ a b c. if group_fuses n a b c then Some (root_power n ((a * b) % n)) else None;
    set_w = λ a b c. None;
    set_v = λ a b c. None;
    set_twist = λ a. None;
    set_loop = λ a. None;
  };
}
