use Rattle.std.proofs.Common.{rules, ℕ, List, subst}
use Rattle.std.specs.Prelude.{IfOk}
use Rattle.program_text.specs.declared.letter.Letter.{Letter}
use Rattle.symbol_table.specs.Category.{draft_symbols}
use Rattle.charge_project.specs.Weights.{stated_weight}
use Rattle.outcome_rows.specs.Ends.{AreOutcomesOf, StopsAs, weighed_ends}
use Rattle.outcome_rows.specs.Rows.{outcomes_in}
use Rattle.runner.specs.Trees.{tree_told}
use Rattle.runner.proofs.ends.rows_from.Goals as goal

pub returns-clause-stated : goal.returns-clause-stated
returns-clause-stated g c =
    let s = draft_symbols (g.R.StarRing.ring c.args.category.now.ring) g.R.StarRing.held c.args.category.now in
    subst (λ (x : ℕ × List Letter). StopsAs c.letter_outcomes.result (weighed_ends (tree_told s x.0) (stated_weight s) c.args.turns.now.places x.1 c.args.state)) (λ j. (c.strands_of.ensures j, c.as_slice-letters.ensures.value j))
    (c.letter_outcomes.ensures.stated (stated_weight s) (λ state answer h. search rules))

pub returns-clause-outcomes : goal.returns-clause-outcomes
returns-clause-outcomes g c =
    let s = draft_symbols (g.R.StarRing.ring c.args.category.now.ring) g.R.StarRing.held c.args.category.now in
    subst (λ (x : ℕ × List Letter). IfOk c.letter_outcomes.result (λ rows. AreOutcomesOf (tree_told s x.0) (stated_weight s) s.held.is_zero c.args.turns.now.places x.1 c.args.state (outcomes_in rows))) (λ j. (c.strands_of.ensures j, c.as_slice-letters.ensures.value j))
    (c.letter_outcomes.ensures.outcomes (stated_weight s) (λ state answer h. search rules))
