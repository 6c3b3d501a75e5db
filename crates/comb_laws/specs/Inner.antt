-- Weights and outcomes as the engine evaluates them: without the factor of the first strand, from the vector that is one
-- at a left-combed tree's own path. In a category they are the weights and the outcomes.
use Rattle.std.specs.Prelude.{ℕ, not, List, ◌∷◌, map}
use Rattle.std.specs.List.{filter}
use Rattle.ring_laws.specs.Sums.{sum_over}
use Rattle.symbol_table.specs.Symbols.{Symbols}
use Rattle.tree_shapes.specs.Labelled.{Labelled, leaves}
use Rattle.comb_laws.specs.Paths.{Path, Vector, paths}
use Rattle.comb_laws.specs.Operators.{weights_along}
use Rattle.comb_laws.specs.Amplitudes.{own_vector}
use Rattle.comb_laws.specs.Words.{word_state, comb_acts}
use Rattle.comb_laws.specs.Plans.{Outcomes, words}
use Rattle.program_text.specs.Letters.{measurements, letters}
use Rattle.program_text.specs.declared.letter.Letter.{Letter}
use Rattle.program_text.specs.declared.plan.Command.{Command}

-- w(x_1,s_2,x_2) .. w(x_(n-1),s_n,x_n), begun at one
abbrev pub inner_path_weight : {E : Type 0} → Symbols E → List ℕ → Path → E
inner_path_weight c (s ∷ strands) (x_0 ∷ x_1 ∷ xs) = weights_along c c.ring.one x_1 strands xs
inner_path_weight c strands x = c.ring.one

-- the sum over all paths of the inner weight of the path times v(x) conj(v(x))
abbrev pub inner_weight : {E : Type 0} → Symbols E → List ℕ → Vector E → E
inner_weight c strands v =
    sum_over c.ring
    (λ x. c.ring.product (inner_path_weight c strands x) (c.ring.product (v x) (c.ring.conjugate (v x))))
    (paths c strands)

-- the inner weight of a word's vector
abbrev pub inner_word_weight : {E : Type 0} → Symbols E → List ℕ → Vector E → List Letter → List ℕ → E
inner_word_weight c strands v ls word =
    let end = word_state (comb_acts c) word ls (strands, v) in
    inner_weight c end.0 end.1

-- the words whose inner weight isn't zero, each with that weight, in the order of lists of labels
abbrev pub inner_rows_from : {E : Type 0} → Symbols E → List ℕ → Vector E → List Command → List (List ℕ × E)
inner_rows_from c strands v commands =
    filter (λ row. not (c.held.is_zero row.1))
    (map (λ word. (word, inner_word_weight c strands v (letters 0 commands) word)) (words c.count (measurements commands)))

-- the inner weight of a left-combed tree's own vector, and the inner rows from it
abbrev pub inner_outcomes_of : {E : Type 0} → Symbols E → Labelled → List Command → Outcomes E
inner_outcomes_of c tree commands =
    let start = own_vector c.ring tree in
    record { total = inner_weight c (leaves tree) start; rows = inner_rows_from c (leaves tree) start commands }
