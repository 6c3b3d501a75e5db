use Rattle.std.proofs.Common.{◌≡◌, ℕ, List, subst, sym}
use Rattle.std.specs.Prelude.{IfOk}
use Rattle.symbol_table.specs.Category.{draft_symbols}
use Rattle.program_text.specs.Program.{program_of}
use Rattle.program_text.specs.WellFormed.{commands_in}
use Rattle.program_text.specs.declared.letter.Letter.{Letter}
use Rattle.comb_laws.specs.Plans.{outcomes_of}
use Rattle.recouple.specs.States.{State}
use Rattle.charge_project.specs.Weights.{stated_weight}
use Rattle.outcome_rows.specs.Ends.{AreOutcomesOf, StopsAs, weighed_ends}
use Rattle.outcome_rows.specs.Rows.{outcomes_in}
use Rattle.outcome_rows.proofs.RowLemmas.{if_ok_map}
use Rattle.sum_laws.specs.RowSums.{SumsToTotal}
use Rattle.runner.specs.Outcomes.{AreScheduled}
use Rattle.runner.specs.Trees.{tree_told}
use Rattle.runner.proofs.TurnLemmas.{turns_few, turns_fit}
use Rattle.runner.proofs.plans.run.Goals as goal

pub rows_from-requires-clause-fit : goal.rows_from-requires-clause-fit
rows_from-requires-clause-fit g c =
    let s = draft_symbols (g.R.StarRing.ring c.args.category.now.ring) g.R.StarRing.held c.args.category.now in
    rw (c.in_ok-start.ensures.state.long, c.in_ok-turns.ensures.places, c.in_ok-turns.ensures.letters)
    (turns_fit s (program_of c.args.plan.now) c.args.schedule.now.turns.items c.requires.program c.requires.legal)

pub rows_from-requires-clause-few : goal.rows_from-requires-clause-few
rows_from-requires-clause-few g c =
    let s = draft_symbols (g.R.StarRing.ring c.args.category.now.ring) g.R.StarRing.held c.args.category.now in
    rw (c.in_ok-turns.ensures.letters) (turns_few s (program_of c.args.plan.now) c.args.schedule.now.turns.items c.requires.program c.requires.legal)

pub returns-clause-rows : goal.returns-clause-rows
returns-clause-rows g c =
    let s = draft_symbols (g.R.StarRing.ring c.args.category.now.ring) g.R.StarRing.held c.args.category.now in
    let p = program_of c.args.plan.now in
    let schedule = c.args.schedule.now.turns.items in
    if_ok_map (λ rows. AreScheduled s p schedule (outcomes_in rows)) (λ rows. outcomes_in rows ≡ outcomes_of s p.start (commands_in p.sites)) c.rows_from.result
    (subst (λ (x : ℕ × ℕ × List Letter × State g.row.R-Elem.Denot). IfOk c.rows_from.result (λ rows. AreOutcomesOf (tree_told s x.0) (stated_weight s) s.held.is_zero x.1 x.2 x.3 (outcomes_in rows)))
    (λ j. (c.in_ok-start.ensures.state.long j, c.in_ok-turns.ensures.places j, c.in_ok-turns.ensures.letters j, c.in_ok-start.ensures.value j)) c.rows_from.ensures.outcomes)
    (λ rows made. c.rows.ensures.outcomes p schedule (outcomes_in rows) c.requires.program c.requires.legal made)

pub returns-clause-sums : goal.returns-clause-sums
returns-clause-sums g c =
    let s = draft_symbols (g.R.StarRing.ring c.args.category.now.ring) g.R.StarRing.held c.args.category.now in
    let p = program_of c.args.plan.now in
    if_ok_map (λ rows. outcomes_in rows ≡ outcomes_of s p.start (commands_in p.sites)) (λ rows. SumsToTotal s.ring (outcomes_in rows)) c.rows_from.result (returns-clause-rows g c)
    (λ rows is. subst (SumsToTotal s.ring) (sym is) (c.sums.ensures.programs p c.requires.program))

pub returns-clause-stated : goal.returns-clause-stated
returns-clause-stated g c =
    let s = draft_symbols (g.R.StarRing.ring c.args.category.now.ring) g.R.StarRing.held c.args.category.now in
    let p = program_of c.args.plan.now in
    subst (λ (x : ℕ × ℕ × List Letter × State g.row.R-Elem.Denot). StopsAs c.rows_from.result (weighed_ends (tree_told s x.0) (stated_weight s) x.1 x.2 x.3))
    (λ j. (c.in_ok-start.ensures.state.long j, c.in_ok-turns.ensures.places j, c.in_ok-turns.ensures.letters j, c.in_ok-start.ensures.value j)) c.rows_from.ensures.stated
