use Rattle.std.proofs.Common.{rules, ◌≡◌, ◌∙◌, ℕ, subst}
use Rattle.fusion_rules.specs.Fusion.{fuses}
use Rattle.symbol_table.specs.Category.{draft_symbols}
use Rattle.tree_shapes.specs.Labelled.{size}
use Rattle.tree_shapes.specs.Views.{labelled}
use Rattle.word_runs.specs.Runs.{Runs}
use Rattle.comb_laws.specs.Plans.{outcomes_of}
use Rattle.outcome_rows.specs.Evaluated.{evaluation_of as evaluation_from}
use Rattle.outcome_rows.specs.Rows.{outcomes_in}
use Rattle.outcome_rows.proofs.RowLemmas.{if_ended}
use Rattle.comb_run.specs.Evaluated.{State, comb_told, evaluation_of, state_weight_at}
use Rattle.comb_run.proofs.StartLemmas.{comb_ends, left_is}
use Rattle.comb_run.proofs.comb.comb_rows.Goals as goal

pub returns-clause-evaluated : goal.returns-clause-evaluated
returns-clause-evaluated g c =
    let category = c.args.category.now in
    let s = draft_symbols (g.R.StarRing.ring category.ring) g.R.StarRing.held category in
    let tree = labelled c.args.tree.now in
    let long : c.len.result ≡ size tree = c.len.ensures.value ∙ c.in_ok-start.ensures.state.long in
    subst (λ (p : ℕ × State g.row.R-Elem.Denot). Runs outcomes_in c.text_outcomes.result (evaluation_from (comb_told s p.0) (state_weight_at s) s.held.is_zero p.1 c.args.commands.now))
    (λ j. (long j, c.in_ok-start.ensures.value j)) (c.text_outcomes.ensures (state_weight_at s) (λ state answer h. search rules))

pub returns-clause-rows : goal.returns-clause-rows
returns-clause-rows g c =
    let category = c.args.category.now in
    let s = draft_symbols (g.R.StarRing.ring category.ring) g.R.StarRing.held category in
    let tree = labelled c.args.tree.now in
    let commands = c.args.commands.now in
    let laws = g.met.R.StarRing.laws category.ring in
    let long : c.len.result ≡ size tree = c.len.ensures.value ∙ c.in_ok-start.ensures.state.long in
    if_ended (λ ended. ended ≡ outcomes_of s tree commands) outcomes_in c.text_outcomes.result (evaluation_of s tree commands) (returns-clause-evaluated g c)
    (λ ended ends. comb_ends s laws c.all_labels.ensures.proper c.left_comb_start.ensures.weight c.left_comb_start.ensures.start c.len.result tree commands ended long
    (left_is (fuses category.rules) category.rules.count tree c.requires.start c.requires.left) c.outcomes.ensures c.requires.runnable.gaps c.requires.runnable.timely ends)
