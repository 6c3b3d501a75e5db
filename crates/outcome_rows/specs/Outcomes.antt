-- Where an evaluation ends, its total and its rows are those of the plan.
use Rattle.std.specs.Prelude.{◌≡◌, Bool, true, ℕ, List, [], Option, Ok}
use Rattle.std.specs.List.{AllByRecursion}
use Rattle.program_text.specs.Letters.{gap_of, letters, measurements}
use Rattle.program_text.specs.declared.plan.Command.{Command}
use Rattle.word_runs.specs.Told.{Told, IsGap}
use Rattle.comb_laws.specs.Plans.{Outcomes}
use Rattle.comb_laws.specs.Words.{Acts}
use Rattle.run_laws.specs.Rows.{HasRisingParts, rows_of_plan}
use Rattle.run_laws.specs.Timely.{is_timely}
use Rattle.outcome_rows.specs.Evaluated.{evaluation_of}

-- the outcomes of a plan from a vector: its weight, and the words whose vector has a weight that isn't zero
abbrev pub outcomes_of_plan : {V W : Type 0} → ℕ → Acts V → (V → W) → (W → Bool) → List Command → V → Outcomes W
outcomes_of_plan count act weight zero commands v = record {
  total = weight v;
  rows = rows_of_plan count (measurements commands) act weight zero (letters 0 commands) v;
}

-- Where the parts of a state come in label order, commands are at gaps, and each outcome is there when it is tested: the
-- evaluation from a state that stands for a vector gives, where it ends, the outcomes of the plan from that vector, its
-- rows in the order in which they are made.
abbrev pub EndsInOutcomes : {M T V W : Type 0} → Told M T → ℕ → Acts V → (V → Type 0) → (M → V → Type 0) → (M → Option W) → (V → W) → (W → Bool) → Type 0
EndsInOutcomes {M} {T} {V} {W} e count act Good Stands weigh weight zero =
    HasRisingParts e → (commands : List Command) (s : M) (v : V) (ended : Outcomes W)
    → AllByRecursion (λ l. IsGap e (gap_of l)) (letters 0 commands) → is_timely [] (letters 0 commands) ≡ true
    → Good v → Stands s v
    → evaluation_of e weigh zero s commands ≡ Ok ended → ended ≡ outcomes_of_plan count act weight zero commands v
