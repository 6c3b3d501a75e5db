use Rattle.std.proofs.Common.{◌≡◌, ◌∙◌, length, ap, sym, subst, arith}
use Rattle.fusion_rules.specs.Fusion.{Fusion}
use Rattle.symbol_table.specs.Category.{draft_symbols}
use Rattle.amp_store.specs.Amplitudes.{AreAmplitudes}
use Rattle.word_runs.specs.Parts.{parts_of}
use Rattle.charge_project.specs.Splits.{parts_below}
use Rattle.recouple.proofs.PairLemmas.{pair_there}
use Rattle.charge_project.proofs.ProjectLemmas.{part_of, project_is}
use Rattle.charge_project.proofs.SplitLemmas.{parts_more, some_parts}
use Rattle.charge_project.proofs.parts.split.Goals as goal

pub loop-label-preserved : goal.loop-label-preserved
loop-label-preserved g c =
    parts_more c.args.k c.args.state.now c.loop-label.label (parts_of (λ s. s) c.loop-label.parts.items) (parts_of (λ s. s) c.push_part.new.parts.items) c.loop-label.invariant c.in_ok-push_part.ensures

pub returns-clause-of : goal.returns-clause-of
returns-clause-of g c q =
    let category = c.args.category.now in
    let s = draft_symbols (g.R.StarRing.ring category.ring) g.R.StarRing.held category in
    let state = c.args.state.now in
    part_of s (g.met.R.StarRing.laws category.ring) c.all_labels.ensures.proper c.all_labels.ensures.equations state c.requires.of (subst (AreAmplitudes s.held) c.amps.ensures c.in_order.ensures) c.args.k c.requires.low c.requires.gap
    (pair_there state.shape c.args.k c.requires.low c.requires.gap c.requires.pair) q

pub returns-clause-stands : goal.returns-clause-stands
returns-clause-stands g c q =
    let category = c.args.category.now in
    let s = draft_symbols (g.R.StarRing.ring category.ring) g.R.StarRing.held category in
    let state = c.args.state.now in
    project_is s (g.met.R.StarRing.laws category.ring) c.all_labels.ensures.proper c.all_labels.ensures.equations state c.requires.of (subst (AreAmplitudes s.held) c.amps.ensures c.in_order.ensures) c.args.k c.requires.low c.requires.gap
    (pair_there state.shape c.args.k c.requires.low c.requires.gap c.requires.pair) q

pub returns-clause-some : goal.returns-clause-some
returns-clause-some g c some none =
    let category = c.args.category.now in
    let s = draft_symbols (g.R.StarRing.ring category.ring) g.R.StarRing.held category in
    let state = c.args.state.now in
    let end : c.loop-label.label ≡ category.rules.count = omega (arith, c.loop-label-test.false, c.count-label-end.ensures.count, ap (λ (r : Fusion). r.count) c.rules.ensures) in
    some_parts s.ring s.count (length state.strands) c.args.k state c.requires.of.over c.requires.low (omega (arith, c.requires.gap, c.requires.of.leaves)) some
    (ap (parts_below c.args.k state) (sym end) ∙ (sym c.loop-label.invariant ∙ ap (parts_of (λ s. s)) none))
