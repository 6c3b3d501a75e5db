use Rattle.std.proofs.Common.{ℕ, subst, ap, ◌∙◌}
use Rattle.std.specs.Prelude.{slice_index}
use Rattle.ring_laws.specs.Stated.{Gives}
use Rattle.fusion_rules.specs.Check.{dual_of}
use Rattle.fusion_rules.specs.Fusion.{Fusion, fuses}
use Rattle.symbol_table.specs.Category.{draft_symbols}
use Rattle.category_gate.specs.Marks.{loop_over}
use Rattle.category_gate.proofs.marks.loop_f_left.Goals as goal

pub returns-clause-value : goal.returns-clause-value
returns-clause-value g c =
    let s = draft_symbols (g.R.StarRing.ring c.args.draft.now.ring) g.R.StarRing.held c.args.draft.now in
    let a = slice_index c.args.at.now 0 in
    subst (λ (b : ℕ). Gives c.loop_over.result (loop_over s a b)) (c.dual.ensures.value ∙ ap (λ (r : Fusion). dual_of r.count (fuses r) a) c.rules.ensures) c.loop_over.ensures.value
