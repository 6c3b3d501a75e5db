-- What the laws of a category say of comb vectors.
use Rattle.std.specs.Prelude.{◌≡◌, ℕ, Bool, true, ◌&&◌, List}
use Rattle.symbol_table.specs.Symbols.{Symbols}
use Rattle.tree_shapes.specs.Labelled.{Labelled, is_left_comb, is_admissible}
use Rattle.program_text.specs.Form.{labels_below}
use Rattle.program_text.specs.declared.plan.Command.{Command}
use Rattle.comb_laws.specs.Paths.{Vector}
use Rattle.comb_laws.specs.Operators.{weight}
use Rattle.comb_laws.specs.Amplitudes.{start_vector, own_vector}
use Rattle.comb_laws.specs.Plans.{outcomes_of}
use Rattle.comb_laws.specs.Inner.{inner_weight, inner_outcomes_of}

-- a left-combed tree of any number of strands, with labels below the count and admissible nodes
abbrev pub is_left_start : (ℕ → ℕ → ℕ → Bool) → ℕ → Labelled → Bool
is_left_start fuse count tree = is_left_comb tree && (labels_below count tree && is_admissible fuse tree)

-- From the unit, a left-combed tree is one at the path of its own labels and zero at every other.
abbrev pub StartsAtOwnPath : {E : Type 0} → Symbols E → Type 0
StartsAtOwnPath c =
    (tree : Labelled) → is_left_start c.fuse c.count tree ≡ true → start_vector c tree ≡ own_vector c.ring tree

-- The factor of the first strand is one along every path, so it may be left out of a weight.
abbrev pub FirstFactorIsOne : {E : Type 0} → Symbols E → Type 0
FirstFactorIsOne {E} c = (strands : List ℕ) (v : Vector E) → weight c strands v ≡ inner_weight c strands v

-- So the engine's outcomes are those of the definitions.
abbrev pub OutcomesAreInner : {E : Type 0} → Symbols E → Type 0
OutcomesAreInner c =
    (tree : Labelled) (commands : List Command) → is_left_start c.fuse c.count tree ≡ true
    → outcomes_of c tree commands ≡ inner_outcomes_of c tree commands
