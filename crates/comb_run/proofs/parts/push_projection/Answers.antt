use Rattle.std.proofs.Common.{ℕ, length, ap}
use Rattle.std.proofs.lemmas.List.Elements.{All-push}
use Rattle.symbol_table.specs.Category.{draft_symbols}
use Rattle.word_runs.specs.Parts.{parts_of}
use Rattle.word_runs.specs.declared.engine.Part.{Part}
use Rattle.comb_run.specs.Evaluated.{State, part_of}
use Rattle.comb_run.specs.States.{state_of, IsState}
use Rattle.comb_run.specs.declared.state.CombState.{CombState}
use Rattle.comb_run.proofs.PartLemmas.{part_dropped, part_kept, not_true}
use Rattle.comb_run.proofs.parts.push_projection.Goals as goal

pub returns-then-is_empty-clause-value : goal.returns-then-is_empty-clause-value
returns-then-is_empty-clause-value g c =
    let base = c.args.category.now.ring in
    let s = draft_symbols (g.R.StarRing.ring base) g.R.StarRing.held c.args.category.now in
    let state = c.args.state.now in
    part_dropped s (g.met.R.StarRing.laws base) state.strands.items c.in_ok-part.part c.args.q (part_of s c.args.k (state_of s.ring state) c.args.q) c.in_ok-part.ensures.value
    (ap (λ (p : ℕ × State g.row.R-Elem.Denot). p.1.0) c.in_ok-part.ensures.value) (c.is_empty.ensures.0 c.if-is_empty.true) (parts_of (state_of s.ring) c.args.parts.now.items)

pub returns-clause-value : goal.returns-clause-value
returns-clause-value g c =
    let base = c.args.category.now.ring in
    let s = draft_symbols (g.R.StarRing.ring base) g.R.StarRing.held c.args.category.now in
    let state = c.args.state.now in
    part_kept s (g.met.R.StarRing.laws base) state.strands.items c.in_ok-part.part c.args.q (part_of s c.args.k (state_of s.ring state) c.args.q) c.in_ok-part.ensures.value
    (ap (λ (p : ℕ × State g.row.R-Elem.Denot). p.1.0) c.in_ok-part.ensures.value) c.in_ok-part.ensures.state.entries
    (λ none. not_true _ c.if-is_empty.false (c.is_empty.ensures.1 none)) c.args.parts.now.items c.push_part.new.parts.items c.in_ok-push_part.ensures

pub returns-clause-parts : goal.returns-clause-parts
returns-clause-parts g c =
    let base = c.args.category.now.ring in
    let s = draft_symbols (g.R.StarRing.ring base) g.R.StarRing.held c.args.category.now in
    let state = c.args.state.now in
    rw c.in_ok-push_part.ensures
    (All-push (λ (p : Part (CombState g.row.R.Denot g.row.R-Elem.Denot)). IsState s (length state.strands.items) p.state) c.args.parts.now.items (record { label = c.args.q; state = c.in_ok-part.part }) c.requires.parts c.in_ok-part.ensures.state)
