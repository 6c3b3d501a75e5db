-- Whatever the schedule, the outcomes of a run are those of the plan, and its live words are those in word order.
use Rattle.std.proofs.Common.{◌≡◌, ℕ, ◌≤◌, Bool, true, false, List, [], ◌∷◌, refl, sym, subst, arith}
use Rattle.std.specs.Prelude.{Ok}
use Rattle.std.specs.List.Sorted.{IsStrictlySortedBy}
use Rattle.ring_laws.specs.Ring.{RingLaws}
use Rattle.symbol_table.specs.Symbols.{Symbols}
use Rattle.tree_shapes.specs.Labelled.{Labelled, is_admissible, leaves, node_labels, size}
use Rattle.program_text.specs.Letters.{gap_of, letters, measurements}
use Rattle.program_text.specs.Program.{Program}
use Rattle.program_text.specs.WellFormed.{IsProgram, commands_in}
use Rattle.word_runs.specs.Lives.{IsFit}
use Rattle.word_runs.specs.Runs.{Live, run_of, start_word}
use Rattle.word_runs.specs.Told.{IsGap}
use Rattle.word_runs.proofs.EachLemmas.{all_map}
use Rattle.comb_laws.specs.Amplitudes.{start_vector}
use Rattle.comb_laws.specs.Operators.{weight}
use Rattle.comb_laws.specs.Paths.{Vector}
use Rattle.comb_laws.specs.Plans.{Outcomes, outcomes_of}
use Rattle.comb_laws.specs.Words.{comb_acts, word_state}
use Rattle.comb_laws.proofs.StartLemmas.{length-leaves}
use Rattle.path_laws.proofs.CancelLemmas.{starts_are_over}
use Rattle.run_laws.specs.Combs.{comb_nought, comb_weight}
use Rattle.run_laws.specs.Meaning.{AreEnds, IsFull}
use Rattle.run_laws.specs.Programs.{commands_of, ranges_of}
use Rattle.run_laws.specs.Rows.{rows_of_plan}
use Rattle.run_laws.specs.Turns.{turns}
use Rattle.run_laws.proofs.EndMeaning.{schedule_ends}
use Rattle.run_laws.proofs.OrderLemmas.{sorted_ends}
use Rattle.run_laws.proofs.ProgramLemmas.{programs_may_run}
use Rattle.run_laws.proofs.RowLemmas.{schedule_rows}
use Rattle.site_schedule.specs.Legal.{IsLegal, letters_in}
use Rattle.outcome_rows.proofs.WordLemmas.{sorted_in_word_order}
use Rattle.amp_store.specs.Amplitudes.{AreAmplitudes}
use Rattle.recouple.specs.States.{State, comb}
use Rattle.recouple.proofs.StartLemmas.{own_of, own_stands}
use Rattle.charge_project.specs.Weights.{stated_weight}
use Rattle.runner.specs.Evaluated.{made_ends, own_state}
use Rattle.runner.specs.EngineFacts.{engine_far, engine_faithful, engine_weighing}
use Rattle.runner.specs.Meaning.{AreLawful, IsLawfulVector, StandsFor}
use Rattle.runner.specs.Outcomes.{SchedulesEndInOrder, SchedulesEndInOutcomes, SchedulesLeaveSome, SchedulesMeanWords, word_vector}
use Rattle.runner.specs.Shapes.{tree_shapes}
use Rattle.runner.specs.Trees.{tree_told}
use Rattle.runner.proofs.RunLemmas.{run_kept}
use Rattle.runner.proofs.SomeLemmas.{HasSome, keeps_some}
use Rattle.runner.proofs.TurnLemmas.{turns_fit}

module _ {E : Type 0} (c : Symbols E) (laws : RingLaws c.ring c.held) (lawful : AreLawful c) where
  -- one isn't zero
  one_some : c.held.is_zero c.ring.one ≡ false
  one_some = pick (c.held.is_zero c.ring.one) refl
    where
      pick : (b : Bool) → c.held.is_zero c.ring.one ≡ b → c.held.is_zero c.ring.one ≡ false
      pick true is = absurd (laws.one_apart ((laws.is_zero_is c.ring.one laws.one_is).0 is))
      pick false is = is

  one_order : (key : List ℕ) → AreAmplitudes c.held ((key, c.ring.one) ∷ [])
  unfolding IsStrictlySortedBy
  one_order key = record { ordered = (tt, tt); nonzero = (one_some, tt) }

  module _ (tree : Labelled) (some : 2 ≤ size tree) (is : is_admissible c.fuse tree ≡ true) where
    start_good : IsLawfulVector c (size tree) (leaves tree, start_vector c tree)
    start_good =
        let over = starts_are_over c laws tree in
        record { lawful = lawful; over = record { strands = length-leaves tree; members = over.members; off = over.off } }

    start_stands : StandsFor c (size tree) (own_state c.ring tree) (leaves tree, start_vector c tree)
    start_stands = record {
      of = record { of = own_of c lawful.proper laws tree is some; long = length-leaves tree };
      amps = one_order (node_labels tree);
      is = λ j. (leaves tree, sym (own_stands c lawful.proper laws tree is some) j);
    }

  pub schedules_end : SchedulesEndInOutcomes c
  schedules_end p schedule made is legal of =
      let run = programs_may_run c.fuse c.count p is in
      let n = size p.start in
      let s = own_state c.ring p.start in
      let good = start_good p.start is.start.some is.start.admissible in
      let stands = start_stands p.start is.start.some is.start.admissible in
      let ends = subst (λ cs. run_of (tree_told c n) 1 (turns (letters_in p) schedule) (start_word (measurements cs) s) ≡ Ok of.rows.live) (sym run.text) of.rows.ends in
      let total : made.total ≡ weight c (leaves p.start) (start_vector c p.start) = (engine_weighing c laws n).weighs s (leaves p.start, start_vector c p.start) made.total good stands of.total in
      let rows : made.rows ≡ Outcomes.rows (outcomes_of c p.start (commands_in p.sites)) =
      subst (λ cs. made.rows ≡ rows_of_plan c.count (measurements cs) (comb_acts c) (comb_weight c) c.held.is_zero (letters 0 cs) (leaves p.start, start_vector c p.start)) run.text
      (schedule_rows c.count (comb_acts c) (IsLawfulVector c n) (comb_nought c) (StandsFor c n) (stated_weight c) (comb_weight c) c.held.is_zero (engine_weighing c laws n)
      (tree_told c n) (tree_shapes c n) (engine_faithful c laws n) (engine_far c laws n) (ranges_of p.sites) (commands_of p.sites) schedule s (leaves p.start, start_vector c p.start) of.rows.live made.rows
      run.apart legal.whole legal.timely good stands ends of.rows.rows) in
      λ j. record { total = total j; rows = rows j }

  -- the ends of a run under a schedule are those of the letters in the order of the text
  module _ (p : Program) (schedule : List ℕ) (live : List (Live (State E))) (is : IsProgram c.fuse c.count p) (legal : IsLegal p schedule) (ended : made_ends c p schedule ≡ Ok live) where
    program_ends : AreEnds c.count (measurements (commands_in p.sites)) (comb_acts c) (IsLawfulVector c (size p.start)) (comb_nought c) (StandsFor c (size p.start)) (letters 0 (commands_in p.sites)) (leaves p.start, start_vector c p.start) live
    program_ends =
        let run = programs_may_run c.fuse c.count p is in
        let n = size p.start in
        let s = own_state c.ring p.start in
        let ends = subst (λ cs. run_of (tree_told c n) 1 (turns (letters_in p) schedule) (start_word (measurements cs) s) ≡ Ok live) (sym run.text) ended in
        subst (λ cs. AreEnds c.count (measurements cs) (comb_acts c) (IsLawfulVector c n) (comb_nought c) (StandsFor c n) (letters 0 cs) (leaves p.start, start_vector c p.start) live) run.text
        (schedule_ends (tree_told c n) (tree_shapes c n) c.count (comb_acts c) (IsLawfulVector c n) (comb_nought c) (StandsFor c n) (engine_faithful c laws n) (engine_far c laws n)
        (ranges_of p.sites) (commands_of p.sites) schedule s (leaves p.start, start_vector c p.start) live run.apart legal.whole legal.timely
        (start_good p.start is.start.some is.start.admissible) (start_stands p.start is.start.some is.start.admissible) ends)

  pub schedules_in_order : SchedulesEndInOrder c
  schedules_in_order p schedule live sorted is legal ended of =
      sorted_in_word_order c.count (comb_acts c) (IsLawfulVector c (size p.start)) (comb_nought c) (StandsFor c (size p.start)) (measurements (commands_in p.sites)) (letters 0 (commands_in p.sites))
      (leaves p.start, start_vector c p.start) live sorted (program_ends p schedule live is legal ended) of

  pub schedules_mean_words : SchedulesMeanWords c
  schedules_mean_words p schedule live sorted is legal ended of =
      let m = measurements (commands_in p.sites) in
      let ls = letters 0 (commands_in p.sites) in
      let v : List ℕ × Vector E = (leaves p.start, start_vector c p.start) in
      let are = (sorted_ends c.count (comb_acts c) (IsLawfulVector c (size p.start)) (comb_nought c) (StandsFor c (size p.start)) m ls v live sorted (program_ends p schedule live is legal ended) of.permutation of.order).0 in
      record {
        stands = all_map (λ (l : Live (State E)). IsFull c.count m l.word × StandsFor c (size p.start) l.state (word_state (comb_acts c) l.word ls v))
            (λ (l : Live (State E)). word_vector c p l.word ≡ (l.state.strands, comb c l.state)) sorted (λ l h. h.1.is) are.sound;
        complete = are.complete;
      }

  pub schedules_leave_some : SchedulesLeaveSome c
  schedules_leave_some p schedule live is legal ended =
      let n = size p.start in
      let s = own_state c.ring p.start in
      let stands = start_stands p.start is.start.some is.start.admissible in
      let fit = turns_fit c p schedule is legal in
      let kept = run_kept (tree_told c n) (tree_shapes c n) (HasSome c n) (keeps_some c laws lawful n) 1 (turns (letters_in p) schedule) (start_word (measurements (commands_in p.sites)) s) live
      (all_map (IsFit (tree_told c n) (measurements (commands_in p.sites))) (λ l. IsGap (tree_told c n) (gap_of l)) (turns (letters_in p) schedule) (λ l f. f.gap) fit) ended
      (record { some = omega arith; shape = s.shape; same = (refl, tt); all = (record { of = stands.of; amps = stands.amps; some = λ e. absurd (cc) }, tt) }) in
      kept.some
