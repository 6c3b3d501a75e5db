-- What the weights of words of outcomes, and of the rows of a program, sum to.
use Rattle.std.specs.Prelude.{◌≡◌, ℕ, true, List, [], length}
use Rattle.ring_laws.specs.Ring.{Ring}
use Rattle.ring_laws.specs.Sums.{sum_over}
use Rattle.symbol_table.specs.Symbols.{Symbols}
use Rattle.program_text.specs.Letters.{letters, measurements}
use Rattle.program_text.specs.Program.{Program}
use Rattle.program_text.specs.WellFormed.{IsProgram, commands_in}
use Rattle.program_text.specs.declared.plan.Command.{Command}
use Rattle.comb_laws.specs.Operators.{weight}
use Rattle.comb_laws.specs.Paths.{Vector}
use Rattle.comb_laws.specs.Plans.{Outcomes, outcomes_of, rows_from, word_weight, words}
use Rattle.run_laws.specs.Timely.{is_timely}
use Rattle.move_laws.specs.Linked.{AreAtGaps}

-- the sum of the weights of rows, in the ring
abbrev pub weight_of_rows : {E : Type 0} → Ring E → List (List ℕ × E) → E
weight_of_rows r rows = sum_over r (λ row. row.1) rows

-- A plan on n strands: each letter is at a gap between two of them, and each test reads the outcome of an earlier
-- measurement.
pub record IsPlanOn (n : ℕ) (commands : List Command) : Type 0 where
  pub gaps : AreAtGaps n (letters 0 commands)
  pub timely : is_timely [] (letters 0 commands) ≡ true

-- The weights of all words of outcomes sum to the weight of the vector that they begin with, for every vector over any
-- strands.
abbrev pub WordsShareWeight : {E : Type 0} → Symbols E → Type 0
WordsShareWeight {E} c =
    (strands : List ℕ) (v : Vector E) (commands : List Command) → IsPlanOn (length strands) commands
    → sum_over c.ring (word_weight c strands v (letters 0 commands)) (words c.count (measurements commands)) ≡ weight c strands v

-- So do those of the rows: a word that is no row has the weight zero.
abbrev pub RowsShareWeight : {E : Type 0} → Symbols E → Type 0
RowsShareWeight {E} c =
    (strands : List ℕ) (v : Vector E) (commands : List Command) → IsPlanOn (length strands) commands
    → weight_of_rows c.ring (rows_from c strands v commands) ≡ weight c strands v

-- the weights of the rows sum to the total
abbrev pub SumsToTotal : {E : Type 0} → Ring E → Outcomes E → Type 0
SumsToTotal r outcomes = weight_of_rows r outcomes.rows ≡ outcomes.total

-- The sum law: the weights of the rows of a well formed program sum to its total.
abbrev pub ProgramsSumToTotal : {E : Type 0} → Symbols E → Type 0
ProgramsSumToTotal c = (p : Program) → IsProgram c.fuse c.count p → SumsToTotal c.ring (outcomes_of c p.start (commands_in p.sites))
