-- The total and the rows of commands from a state, evaluated, over any engine. Here weigh is the weight of a state, where it
-- fits, and zero tells whether a weight is zero.
use Rattle.std.specs.Prelude.{ℕ, ◌+◌, Bool, List, [], ◌∷◌, ◌++◌, Option, Some, length, if◌then◌else◌, Result, Ok}
use Rattle.ring_laws.specs.Stated.{◌>>=◌, Gives, steps_over}
use Rattle.program_text.specs.Letters.{letters, measurements}
use Rattle.program_text.specs.declared.plan.Command.{Command}
use Rattle.word_runs.specs.Told.{Told}
use Rattle.word_runs.specs.Runs.{Live, ◌>>>◌, fitting, run_of, start_word}
use Rattle.word_runs.specs.declared.fault.RunStop.{RunStop}
use Rattle.comb_laws.specs.Plans.{Outcomes}

-- what calls answer at states are the stated weights
abbrev pub AreWeights : {S M W F : Type 0} → (S → Result W F → Type 0) → (S → M) → (M → Option W) → Type 0
AreWeights {S} {M} {W} {F} post seen stated = (state : S) (answer : Result W F) → post state answer → Gives answer (stated (seen state))

-- one more row, if its weight isn't zero
abbrev pub row_added : {W : Type 0} → (W → Bool) → List ℕ → W → List (List ℕ × W) → List (List ℕ × W)
row_added zero word weight rows = if zero weight then rows else rows ++ (word, weight) ∷ []

-- one more live word: its row, if its weight isn't zero
abbrev pub row_step : {M W : Type 0} → (M → Option W) → (W → Bool) → Live M → List (List ℕ × W) → Option (List (List ℕ × W))
row_step weigh zero live rows = do
  weight ← weigh live.state
  Some (row_added zero live.word weight rows)

-- the live words whose weight isn't zero, each with its weight, in their order; none where the weight of one doesn't fit
abbrev pub rows_at : {M W : Type 0} → (M → Option W) → (W → Bool) → List (Live M) → Option (List (List ℕ × W))
rows_at weigh zero live = steps_over (row_step weigh zero) live []

-- the live words at the end of commands from a state, where each command is a turn from 1 on
abbrev pub ends_from : {M T : Type 0} → Told M T → M → List Command → Result (List (Live M)) RunStop
ends_from e s commands = run_of e 1 (letters 0 commands) (start_word (measurements commands) s)

-- the rows at the end of commands from a state; the turn after the last command evaluates the weights
abbrev pub rows_from : {M T W : Type 0} → Told M T → (M → Option W) → (W → Bool) → M → List Command → Result (List (List ℕ × W)) RunStop
rows_from e weigh zero s commands = ends_from e s commands >>> λ ends. fitting (1 + length commands) (rows_at weigh zero ends)

-- The total and the rows of commands from a state, or the first stop: turn 0 evaluates the total, and then the commands
-- follow.
abbrev pub evaluation_of : {M T W : Type 0} → Told M T → (M → Option W) → (W → Bool) → M → List Command → Result (Outcomes W) RunStop
evaluation_of e weigh zero s commands =
    fitting 0 (weigh s) >>> λ sum.
    rows_from e weigh zero s commands >>> λ rows.
    Ok (record { total = sum; rows = rows })
