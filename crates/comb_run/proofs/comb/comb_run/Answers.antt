use Rattle.std.proofs.Common.{◌≡◌, ◌∙◌, refl, sym, subst}
use Rattle.fusion_rules.specs.Fusion.{fuses}
use Rattle.symbol_table.specs.Category.{draft_symbols}
use Rattle.tree_shapes.specs.Labelled.{size}
use Rattle.tree_shapes.specs.Views.{labelled}
use Rattle.program_text.specs.Program.{program_of}
use Rattle.program_text.specs.WellFormed.{commands_in}
use Rattle.comb_laws.specs.Plans.{outcomes_of}
use Rattle.outcome_rows.specs.Commands.{AreRunnable}
use Rattle.outcome_rows.specs.Rows.{outcomes_in}
use Rattle.outcome_rows.proofs.ProgramLemmas.{programs_are_runnable}
use Rattle.outcome_rows.proofs.RowLemmas.{if_ok_map}
use Rattle.sum_laws.specs.RowSums.{SumsToTotal}
use Rattle.comb_run.specs.Evaluated.{comb_told}
use Rattle.comb_run.proofs.comb.comb_run.Goals as goal

pub comb_rows-requires-clause-runnable : goal.comb_rows-requires-clause-runnable
comb_rows-requires-clause-runnable g c =
    let category = c.args.category.now in
    let s = draft_symbols (g.R.StarRing.ring category.ring) g.R.StarRing.held category in
    let plan = c.args.plan.now in
    let told = comb_told s (size (labelled plan.start)) in
    subst (AreRunnable told) (sym (c.as_slice.ensures.value ∙ c.in_ok-commands.ensures))
    (programs_are_runnable told (fuses category.rules) category.rules.count (program_of plan) refl c.requires.program)

pub returns-clause-sums : goal.returns-clause-sums
returns-clause-sums g c =
    let category = c.args.category.now in
    let s = draft_symbols (g.R.StarRing.ring category.ring) g.R.StarRing.held category in
    let plan = c.args.plan.now in
    let commands = commands_in (program_of plan).sites in
    let same : c.as_slice.result.now ≡ commands = c.as_slice.ensures.value ∙ c.in_ok-commands.ensures in
    if_ok_map (λ rows. outcomes_in rows ≡ outcomes_of s (labelled plan.start) c.as_slice.result.now) (λ rows. SumsToTotal s.ring (outcomes_in rows)) c.comb_rows.result c.comb_rows.ensures.rows
    (λ rows is. subst (SumsToTotal s.ring) (sym (is ∙ (λ j. outcomes_of s (labelled plan.start) (same j)))) (c.sums.ensures.programs (program_of plan) c.requires.program))
