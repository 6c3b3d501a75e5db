use Rattle.std.proofs.Common.{◌<◌, ℕ, List, length, subst}
use Rattle.std.specs.Prelude.{IfOk}
use Rattle.std.specs.List.{AllByRecursion}
use Rattle.std.proofs.lemmas.List.{length-map}
use Rattle.symbol_table.specs.Category.{draft_symbols}
use Rattle.program_text.specs.Letters.{measurements}
use Rattle.program_text.specs.Program.{program_of}
use Rattle.program_text.specs.WellFormed.{commands_in}
use Rattle.program_text.specs.declared.letter.Letter.{Letter}
use Rattle.word_runs.specs.Lives.{live_of, lives_of}
use Rattle.word_runs.specs.Runs.{run_of, start_word}
use Rattle.recouple.specs.States.{State}
use Rattle.outcome_rows.specs.Ends.{RunsSorted}
use Rattle.outcome_rows.proofs.EndLemmas.{ends_ordered, ends_some}
use Rattle.outcome_rows.proofs.RowLemmas.{if_ok_map}
use Rattle.runner.specs.Evaluated.{made_ends}
use Rattle.runner.specs.Outcomes.{AreWordsOf}
use Rattle.runner.specs.Trees.{IsTreeState, tree_told}
use Rattle.runner.proofs.MeanLemmas.{ends_mean}
use Rattle.runner.proofs.TurnLemmas.{turns_few, turns_fit}
use Rattle.runner.proofs.plans.trees.Goals as goal

pub ends_from-requires-clause-fit : goal.ends_from-requires-clause-fit
ends_from-requires-clause-fit g c =
    let s = draft_symbols (g.R.StarRing.ring c.args.category.now.ring) g.R.StarRing.held c.args.category.now in
    rw (c.in_ok-start.ensures.state.long, c.in_ok-turns.ensures.places, c.in_ok-turns.ensures.letters)
    (turns_fit s (program_of c.args.plan.now) c.args.schedule.now.turns.items c.requires.program c.requires.legal)

pub ends_from-requires-clause-few : goal.ends_from-requires-clause-few
ends_from-requires-clause-few g c =
    let s = draft_symbols (g.R.StarRing.ring c.args.category.now.ring) g.R.StarRing.held c.args.category.now in
    rw (c.in_ok-turns.ensures.letters) (turns_few s (program_of c.args.plan.now) c.args.schedule.now.turns.items c.requires.program c.requires.legal)

pub returns-clause-states : goal.returns-clause-states
returns-clause-states g c =
    let s = draft_symbols (g.R.StarRing.ring c.args.category.now.ring) g.R.StarRing.held c.args.category.now in
    subst (λ (n : ℕ). IfOk c.ends_from.result (λ ends. AllByRecursion (λ l. IsTreeState s n l.state) ends.items)) c.in_ok-start.ensures.state.long c.ends_from.ensures.states

pub returns-clause-some : goal.returns-clause-some
returns-clause-some g c =
    let s = draft_symbols (g.R.StarRing.ring c.args.category.now.ring) g.R.StarRing.held c.args.category.now in
    let p = program_of c.args.plan.now in
    let schedule = c.args.schedule.now.turns.items in
    let sorted = subst (λ (x : ℕ × ℕ × List Letter × State g.row.R-Elem.Denot). RunsSorted (λ ends. lives_of (λ (y : State g.row.R-Elem.Denot). y) ends.items) c.ends_from.result (run_of (tree_told s x.0) 1 x.2 (start_word x.1 x.3)))
    (λ j. (c.in_ok-start.ensures.state.long j, c.in_ok-turns.ensures.places j, c.in_ok-turns.ensures.letters j, c.in_ok-start.ensures.value j)) c.ends_from.ensures.stated in
    if_ok_map (λ ends. 0 < length (lives_of (λ (y : State g.row.R-Elem.Denot). y) ends.items)) (λ ends. 0 < length ends.items) c.ends_from.result
    (ends_some (λ ends. lives_of (λ (y : State g.row.R-Elem.Denot). y) ends.items) c.ends_from.result (made_ends s p schedule) sorted
    (λ live ends. c.rows.ensures.some p schedule live c.requires.program c.requires.legal ends))
    (λ ends low. subst (λ (n : ℕ). 0 < n) (length-map ends.items (live_of (λ (y : State g.row.R-Elem.Denot). y))) low)

pub returns-clause-words : goal.returns-clause-words
returns-clause-words g c =
    let s = draft_symbols (g.R.StarRing.ring c.args.category.now.ring) g.R.StarRing.held c.args.category.now in
    let p = program_of c.args.plan.now in
    let schedule = c.args.schedule.now.turns.items in
    let sorted = subst (λ (x : ℕ × ℕ × List Letter × State g.row.R-Elem.Denot). RunsSorted (λ ends. lives_of (λ (y : State g.row.R-Elem.Denot). y) ends.items) c.ends_from.result (run_of (tree_told s x.0) 1 x.2 (start_word x.1 x.3)))
    (λ j. (c.in_ok-start.ensures.state.long j, c.in_ok-turns.ensures.places j, c.in_ok-turns.ensures.letters j, c.in_ok-start.ensures.value j)) c.ends_from.ensures.stated in
    ends_mean (λ ends. lives_of (λ (y : State g.row.R-Elem.Denot). y) ends.items) c.ends_from.result (made_ends s p schedule) (AreWordsOf s p) sorted
    (λ live again ends are. c.rows.ensures.words p schedule live again c.requires.program c.requires.legal ends are)

pub returns-clause-stated : goal.returns-clause-stated
returns-clause-stated g c =
    let s = draft_symbols (g.R.StarRing.ring c.args.category.now.ring) g.R.StarRing.held c.args.category.now in
    let p = program_of c.args.plan.now in
    let schedule = c.args.schedule.now.turns.items in
    let sorted = subst (λ (x : ℕ × ℕ × List Letter × State g.row.R-Elem.Denot). RunsSorted (λ ends. lives_of (λ (y : State g.row.R-Elem.Denot). y) ends.items) c.ends_from.result (run_of (tree_told s x.0) 1 x.2 (start_word x.1 x.3)))
    (λ j. (c.in_ok-start.ensures.state.long j, c.in_ok-turns.ensures.places j, c.in_ok-turns.ensures.letters j, c.in_ok-start.ensures.value j)) c.ends_from.ensures.stated in
    ends_ordered (λ ends. lives_of (λ x. x) ends.items) c.ends_from.result (made_ends s p schedule) s.count (measurements (commands_in p.sites)) sorted
    (λ live again ends are. c.rows.ensures.order p schedule live again c.requires.program c.requires.legal ends are)
