-- What the runs of programs mean, whatever the schedule.
use Rattle.std.specs.Prelude.{◌≡◌, ◌<◌, ℕ, false, List, length, Ok}
use Rattle.std.specs.List.{AllByRecursion}
use Rattle.symbol_table.specs.Symbols.{Symbols}
use Rattle.tree_shapes.specs.Labelled.{leaves, size}
use Rattle.program_text.specs.Letters.{letters, measurements}
use Rattle.program_text.specs.Program.{Program}
use Rattle.program_text.specs.WellFormed.{IsProgram, commands_in}
use Rattle.word_runs.specs.Runs.{Live}
use Rattle.comb_laws.specs.Amplitudes.{start_vector}
use Rattle.comb_laws.specs.Paths.{Vector}
use Rattle.comb_laws.specs.Plans.{Outcomes, outcomes_of}
use Rattle.comb_laws.specs.Words.{comb_acts, word_state}
use Rattle.run_laws.specs.Combs.{comb_nought}
use Rattle.run_laws.specs.Meaning.{IsFull, IsIn, words_of}
use Rattle.run_laws.specs.Turns.{turns}
use Rattle.site_schedule.specs.Legal.{IsLegal, letters_in}
use Rattle.outcome_rows.specs.Ends.{AreOutcomesOf}
use Rattle.outcome_rows.specs.WordOrder.{AreSorted, in_word_order}
use Rattle.recouple.specs.States.{State, comb}
use Rattle.charge_project.specs.Weights.{stated_weight}
use Rattle.runner.specs.Evaluated.{made_ends, own_state}
use Rattle.runner.specs.Trees.{tree_told}

-- the total and the rows of a program's turns under a schedule: the weight of its start, and the weights that aren't zero of
-- the live words at the end, sorted
abbrev pub AreScheduled : {E : Type 0} → Symbols E → Program → List ℕ → Outcomes E → Type 0
AreScheduled c p schedule made =
    AreOutcomesOf (tree_told c (size p.start)) (stated_weight c) c.held.is_zero (measurements (commands_in p.sites)) (turns (letters_in p) schedule) (own_state c.ring p.start) made

-- For each well formed program and each legal schedule: where the run ends, its total and its rows are those of the plan by
-- the comb operators in the order of the text.
abbrev pub SchedulesEndInOutcomes : {E : Type 0} → Symbols E → Type 0
SchedulesEndInOutcomes {E} c =
    (p : Program) (schedule : List ℕ) (made : Outcomes E) → IsProgram c.fuse c.count p → IsLegal p schedule
    → AreScheduled c p schedule made → made ≡ outcomes_of c p.start (commands_in p.sites)

-- And its live words, sorted, are those in the order of lists of labels.
abbrev pub SchedulesEndInOrder : {E : Type 0} → Symbols E → Type 0
SchedulesEndInOrder {E} c =
    (p : Program) (schedule : List ℕ) (live sorted : List (Live (State E))) → IsProgram c.fuse c.count p → IsLegal p schedule
    → made_ends c p schedule ≡ Ok live → AreSorted live sorted → sorted ≡ in_word_order c.count (measurements (commands_in p.sites)) live

-- And there is at least one.
abbrev pub SchedulesLeaveSome : {E : Type 0} → Symbols E → Type 0
SchedulesLeaveSome {E} c =
    (p : Program) (schedule : List ℕ) (live : List (Live (State E))) → IsProgram c.fuse c.count p → IsLegal p schedule → made_ends c p schedule ≡ Ok live → 0 < length live

-- the vector of a word: that of the start under the letters in the order of the text
abbrev pub word_vector : {E : Type 0} → Symbols E → Program → List ℕ → List ℕ × Vector E
word_vector c p word = word_state (comb_acts c) word (letters 0 (commands_in p.sites)) (leaves p.start, start_vector c p.start)

-- The live words of a program: the state of each stands for the vector of its word, on its strands, and every word of labels
-- below the count whose vector isn't zero is among them.
pub record AreWordsOf {E : Type 0} (c : Symbols E) (p : Program) (live : List (Live (State E))) : Type 0 where
  pub stands : AllByRecursion (λ l. word_vector c p l.word ≡ (l.state.strands, comb c l.state)) live
  pub complete : (word : List ℕ) → IsFull c.count (measurements (commands_in p.sites)) word → comb_nought c (word_vector c p word) ≡ false → IsIn word (words_of live)

-- And so are they, whatever the schedule.
abbrev pub SchedulesMeanWords : {E : Type 0} → Symbols E → Type 0
SchedulesMeanWords {E} c =
    (p : Program) (schedule : List ℕ) (live sorted : List (Live (State E))) → IsProgram c.fuse c.count p → IsLegal p schedule
    → made_ends c p schedule ≡ Ok live → AreSorted live sorted → AreWordsOf c p sorted
