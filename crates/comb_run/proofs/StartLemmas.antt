-- A left-combed start of a well formed program, and what a run from it gives.
use Rattle.std.proofs.Common.{◌≡◌, ℕ, Bool, true, List, [], sym, subst}
use Rattle.std.specs.Prelude.{◌&&◌, Ok}
use Rattle.std.specs.List.{AllByRecursion}
use Rattle.ring_laws.specs.Ring.{RingLaws}
use Rattle.ring_laws.proofs.SumLemmas as S
use Rattle.tree_shapes.specs.Labelled.{Labelled, is_left_comb, is_admissible, leaves, size}
use Rattle.program_text.specs.Form.{labels_below}
use Rattle.program_text.specs.WellFormed.{IsAdmittedStart}
use Rattle.symbol_table.specs.AllLabels.{IsProper}
use Rattle.symbol_table.specs.Symbols.{Symbols}
use Rattle.program_text.specs.Letters.{gap_of, letters}
use Rattle.program_text.specs.declared.plan.Command.{Command}
use Rattle.word_runs.specs.Told.{IsGap}
use Rattle.comb_laws.specs.Amplitudes.{own_vector, start_vector}
use Rattle.comb_laws.specs.Laws.{FirstFactorIsOne, StartsAtOwnPath, is_left_start}
use Rattle.comb_laws.specs.Plans.{Outcomes, outcomes_of}
use Rattle.comb_laws.specs.Words.{comb_acts}
use Rattle.comb_laws.proofs.StartLemmas.{length-leaves}
use Rattle.path_laws.proofs.CancelLemmas.{starts_are_over}
use Rattle.run_laws.specs.Combs.{comb_weight}
use Rattle.run_laws.specs.Timely.{is_timely}
use Rattle.outcome_rows.specs.Outcomes.{EndsInOutcomes}
use Rattle.comb_run.specs.EngineFacts.{Stands, engine_rises}
use Rattle.comb_run.specs.Evaluated.{comb_told, evaluation_of, state_weight_at}
use Rattle.comb_run.specs.Meaning.{IsLawfulVector}

pub left_is : (fuse : ℕ → ℕ → ℕ → Bool) (count : ℕ) (t : Labelled) → IsAdmittedStart fuse count t → is_left_comb t ≡ true → is_left_start fuse count t ≡ true
left_is fuse count t start left = S.and_yes (is_left_comb t) (labels_below count t && is_admissible fuse t) left (S.and_yes (labels_below count t) (is_admissible fuse t) start.labels start.admissible)

module _ {E : Type 0} (c : Symbols E) (laws : RingLaws c.ring c.held) (proper : IsProper c) (first : FirstFactorIsOne c) (starts : StartsAtOwnPath c) where
  -- the start vector is a comb vector
  start_good : (tree : Labelled) → IsLawfulVector c (size tree) (leaves tree, start_vector c tree)
  start_good tree =
      let over = starts_are_over c laws tree in
      record { proper = proper; first = first; over = record { strands = length-leaves tree; members = over.members; off = over.off } }

  -- so the evaluation from a left-combed tree ends in the outcomes of the plan
  pub comb_ends : (n : ℕ) (tree : Labelled) (commands : List Command) (ended : Outcomes E) → n ≡ size tree → is_left_start c.fuse c.count tree ≡ true
      → EndsInOutcomes (comb_told c n) c.count (comb_acts c) (IsLawfulVector c n) Stands (state_weight_at c) (comb_weight c) c.held.is_zero
      → AllByRecursion (λ l. IsGap (comb_told c (size tree)) (gap_of l)) (letters 0 commands) → is_timely [] (letters 0 commands) ≡ true
      → evaluation_of c tree commands ≡ Ok ended → ended ≡ outcomes_of c tree commands
  comb_ends n tree commands ended same left law gaps timely ends =
      let at = subst (λ m. EndsInOutcomes (comb_told c m) c.count (comb_acts c) (IsLawfulVector c m) Stands (state_weight_at c) (comb_weight c) c.held.is_zero) same law in
      let stands : Stands (leaves tree, own_vector c.ring tree) (leaves tree, start_vector c tree) = λ j. (leaves tree, sym (starts tree left) j) in
      at (engine_rises c laws (size tree)) commands (leaves tree, own_vector c.ring tree) (leaves tree, start_vector c tree) ended gaps timely (start_good tree) stands ends
