-- The ends of letters from a state, with their weights evaluated, over any engine: which live words there are, in which order
-- doesn't matter, and where the evaluation stops. Here weigh is the weight of a state, where it fits, and zero tells whether a
-- weight is zero.
use Rattle.std.specs.Prelude.{◌≡◌, ℕ, ◌+◌, Bool, List, Option, Some, length, if◌then◌else◌, is_some, Result, Ok, Err, IsOk}
use Rattle.std.specs.List.{list_all}
use Rattle.program_text.specs.declared.letter.Letter.{Letter}
use Rattle.word_runs.specs.Told.{Told}
use Rattle.word_runs.specs.Runs.{Live, ◌>>>◌, Stops, fitting, run_of, start_word}
use Rattle.word_runs.specs.declared.fault.RunFault.{RunFault}
use Rattle.word_runs.specs.declared.fault.RunStop.{RunStop}
use Rattle.word_runs.specs.declared.fault.RunStop.TheVariants.{Overflow}
use Rattle.comb_laws.specs.Plans.{Outcomes}
use Rattle.run_laws.specs.Rows.{AreRows}
use Rattle.outcome_rows.specs.WordOrder.{AreSorted}

-- whether the weight of each live word fits
abbrev pub all_fit : {M W : Type 0} → (M → Option W) → List (Live M) → Bool
all_fit weigh live = list_all (λ l. is_some (weigh l.state)) live

-- a turn in which the weight of each live word has to fit
abbrev pub weights_turn : {M W : Type 0} → ℕ → (M → Option W) → List (Live M) → Result (List (Live M)) RunStop
weights_turn turn weigh live = if all_fit weigh live then Ok live else Err (Overflow turn)

-- the live words at the end of letters with m places; the turn behind the last letter evaluates their weights
abbrev pub letter_ends : {M T W : Type 0} → Told M T → (M → Option W) → ℕ → List Letter → M → Result (List (Live M)) RunStop
letter_ends e weigh m ls s = run_of e 1 ls (start_word m s) >>> weights_turn (1 + length ls) weigh

-- The live words at the end of letters from a state, or the first stop: turn 0 evaluates the weight of the start, each letter
-- is a turn, and the turn behind the last one evaluates the weights of the live words.
abbrev pub weighed_ends : {M T W : Type 0} → Told M T → (M → Option W) → ℕ → List Letter → M → Result (List (Live M)) RunStop
weighed_ends e weigh m ls s = fitting 0 (weigh s) >>> λ total. letter_ends e weigh m ls s

-- A call ends exactly where what is stated does, and its stop is the stated one; want of memory is free. What it answers is
-- said elsewhere.
abbrev pub StopsAs : {V A : Type 0} → Result V RunFault → Result A RunStop → Type 0
StopsAs (Ok value) stated = IsOk stated
StopsAs (Err fault) stated = Stops fault stated

-- A call ends exactly where what is stated does, in the same live words, sorted; its stop is the stated one; want of memory is
-- free.
abbrev pub RunsSorted : {V M : Type 0} → (V → List (Live M)) → Result V RunFault → Result (List (Live M)) RunStop → Type 0
RunsSorted {V} {M} view (Ok value) stated = (live : List (Live M)) × (stated ≡ Ok live) × AreSorted live (view value)
RunsSorted view (Err fault) stated = Stops fault stated

-- The rows of letters from a state: those of the live words at their end.
pub record AreRowsOf {M T W : Type 0} (e : Told M T) (weigh : M → Option W) (zero : W → Bool) (m : ℕ) (ls : List Letter) (s : M) (made : List (List ℕ × W)) : Type 0 where
  pub live : List (Live M)
  pub ends : run_of e 1 ls (start_word m s) ≡ Ok live
  pub rows : AreRows weigh zero live made

-- The outcomes of letters from a state: its weight, and their rows.
pub record AreOutcomesOf {M T W : Type 0} (e : Told M T) (weigh : M → Option W) (zero : W → Bool) (m : ℕ) (ls : List Letter) (s : M) (made : Outcomes W) : Type 0 where
  pub total : weigh s ≡ Some made.total
  pub rows : AreRowsOf e weigh zero m ls s made.rows
