-- A walk over the indices of a law, which looks once at each triple of labels.
use Rattle.std.specs.Prelude.{◌≡◌, ℕ, Bool, false, List, ◌++◌, drop}
use Rattle.symbol_table.specs.Laws.{fuse_all}
use Rattle.symbol_table.specs.declared.law.Triple.{Triple}

-- whatever labels follow, the triples from a place on decide as those from a later place on
abbrev pub Settles : (ℕ → ℕ → ℕ → Bool) → List ℕ → List Triple → ℕ → ℕ → Type 0
Settles fuse index triples from to =
    (rest : List ℕ) → fuse_all fuse (index ++ rest) (drop to triples) ≡ fuse_all fuse (index ++ rest) (drop from triples)

-- whatever labels follow, the triples from a place on don't all fuse
abbrev pub Stops : (ℕ → ℕ → ℕ → Bool) → List ℕ → List Triple → ℕ → Type 0
Stops fuse index triples from = (rest : List ℕ) → fuse_all fuse (index ++ rest) (drop from triples) ≡ false
