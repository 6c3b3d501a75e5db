-- The rows of a plan.
use Rattle.std.specs.Prelude.{ℕ, zero, suc, not, List, [], ◌∷◌, map}
use Rattle.std.specs.List.{flat_map, filter}
use Rattle.symbol_table.specs.Symbols.{Symbols}
use Rattle.tree_shapes.specs.Labelled.{Labelled, leaves}
use Rattle.program_text.specs.Letters.{measurements, letters}
use Rattle.program_text.specs.declared.letter.Letter.{Letter}
use Rattle.program_text.specs.declared.plan.Command.{Command}
use Rattle.comb_laws.specs.Paths.{Vector, labels}
use Rattle.comb_laws.specs.Operators.{weight}
use Rattle.comb_laws.specs.Amplitudes.{start_vector}
use Rattle.comb_laws.specs.Words.{word_state, comb_acts}

-- all words of n labels, in the order of lists of labels
abbrev pub words : ℕ → ℕ → List (List ℕ)
words count zero = [] ∷ []
words count (suc n) = flat_map (λ q. map (λ word. q ∷ word) (words count n)) (labels count)

-- the weight of a word: that of its vector under the letters
abbrev pub word_weight : {E : Type 0} → Symbols E → List ℕ → Vector E → List Letter → List ℕ → E
word_weight c strands v ls word =
    let end = word_state (comb_acts c) word ls (strands, v) in
    weight c end.0 end.1

-- the words whose weight isn't zero, each with its weight, in the order of lists of labels
abbrev pub rows_from : {E : Type 0} → Symbols E → List ℕ → Vector E → List Command → List (List ℕ × E)
rows_from c strands v commands =
    filter (λ row. not (c.held.is_zero row.1))
    (map (λ word. (word, word_weight c strands v (letters 0 commands) word)) (words c.count (measurements commands)))

-- The total and the rows of a start and its commands.
pub record Outcomes (E : Type 0) : Type 0 where
  pub total : E
  pub rows : List (List ℕ × E)

-- The outcomes of a start tree under the commands: the start vector's weight, and the rows from that vector.
abbrev pub outcomes_of : {E : Type 0} → Symbols E → Labelled → List Command → Outcomes E
outcomes_of c tree commands =
    let start = start_vector c tree in
    record { total = weight c (leaves tree) start; rows = rows_from c (leaves tree) start commands }
