use Rattle.std.proofs.Common.{◌≡◌, ◌-◌, ℕ, ◌++◌, ◌∷◌, []}
use Rattle.fusion_rules.specs.Fusion.{fuses}
use Rattle.fusion_rules.specs.First.{first_from, first_below}
use Rattle.symbol_table.specs.Category.{draft_symbols}
use Rattle.law_events.specs.First.{first_over, event_at}
use Rattle.law_events.specs.Sides.{verdict}
use Rattle.law_events.proofs.judge.+first_over.Given as goal

abbrev pub decreases-first_over : goal.decreases-first_over
decreases-first_over g l = l.more

-- the first event is among the labels that are left
abbrev pub invariant-loop-t : goal.invariant-loop-t
invariant-loop-t g l =
    let c = draft_symbols (g.R.StarRing.ring l.draft.ring) g.R.StarRing.held l.draft in
    let fault = event_at (fuses l.draft.rules) l.law (verdict c l.law) in
    let next = λ (t : ℕ). first_over c.count fault (l.more - 1) (l.index ++ t ∷ []) in
    first_from next l.t (c.count - l.t) ≡ first_below c.count next
