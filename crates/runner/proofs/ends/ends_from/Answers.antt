use Rattle.std.proofs.Common.{ℕ, List, subst}
use Rattle.std.specs.Prelude.{IfOk}
use Rattle.std.specs.List.{AllByRecursion}
use Rattle.program_text.specs.declared.letter.Letter.{Letter}
use Rattle.symbol_table.specs.Category.{draft_symbols}
use Rattle.word_runs.specs.Lives.{lives_of}
use Rattle.word_runs.specs.Runs.{run_of, start_word}
use Rattle.outcome_rows.specs.Ends.{RunsSorted}
use Rattle.runner.specs.Trees.{IsTreeState, tree_told}
use Rattle.runner.proofs.ends.ends_from.Goals as goal

pub returns-clause-states : goal.returns-clause-states
returns-clause-states g c =
    let s = draft_symbols (g.R.StarRing.ring c.args.category.now.ring) g.R.StarRing.held c.args.category.now in
    subst (λ (x : ℕ × List Letter). IfOk c.sorted_ends.result (λ ends. AllByRecursion (λ l. IsTreeState s x.0 l.state) ends.items)) (λ j. (c.strands_of.ensures j, c.as_slice-letters.ensures.value j)) c.sorted_ends.ensures.of

pub returns-clause-stated : goal.returns-clause-stated
returns-clause-stated g c =
    let s = draft_symbols (g.R.StarRing.ring c.args.category.now.ring) g.R.StarRing.held c.args.category.now in
    subst (λ (x : ℕ × List Letter). RunsSorted (λ ends. lives_of (λ y. y) ends.items) c.sorted_ends.result (run_of (tree_told s x.0) 1 x.1 (start_word c.args.turns.now.places c.args.state))) (λ j. (c.strands_of.ensures j, c.as_slice-letters.ensures.value j)) c.sorted_ends.ensures.stated
