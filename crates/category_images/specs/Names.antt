-- The names of the labels of a product.
use Rattle.std.specs.Prelude.{ℕ, zero, suc, List, [], ◌∷◌, ◌++◌, decimal}

-- `x` and the number of a label
abbrev pub pair_name : ℕ → List ℕ
pair_name k = 120 ∷ decimal k

-- the names of so many labels
abbrev pub pair_names : ℕ → List (List ℕ)
pair_names zero = []
pair_names (suc n) = pair_names n ++ pair_name n ∷ []
