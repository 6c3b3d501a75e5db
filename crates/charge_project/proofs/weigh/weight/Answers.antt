use Rattle.std.proofs.Common.{◌≡◌, ◌≤◌, ◌∙◌, ℕ, List, Some, length, ap, sym, subst, arith}
use Rattle.std.specs.Prelude.{slice_get}
use Rattle.std.proofs.lemmas.Option.{get_or_from_slice_get, slice_get_within}
use Rattle.ring_laws.proofs.StatedLemmas.{err_gives, steps_over_end, steps_over_none, steps_over_one}
use Rattle.symbol_table.specs.Category.{draft_symbols}
use Rattle.amp_store.specs.Amplitudes.{AreAmplitudes}
use Rattle.charge_project.specs.Weights.{weight_step}
use Rattle.recouple.proofs.EntryLemmas.{entry_is}
use Rattle.charge_project.proofs.WeightLemmas.{weight_given}
use Rattle.charge_project.proofs.weigh.weight.Goals as goal

pub add_key-requires-clause-entry : goal.add_key-requires-clause-entry
add_key-requires-clause-entry g c =
    let s = draft_symbols (g.R.StarRing.ring c.args.category.now.ring) g.R.StarRing.held c.args.category.now in
    let state = c.args.state.now in
    let e : List ℕ × g.row.R-Elem.Denot = (c.entry.result.0.now.items, c.entry.result.1.now) in
    entry_is s state c.requires.of (subst (AreAmplitudes s.held) c.amps.ensures c.in_order.ensures) c.loop-place.place e
    (ap (λ es. slice_get es c.loop-place.place) (sym c.amps-in-loop-place.ensures) ∙ c.entry.ensures)

pub returns-in_err-sum-clause-value : goal.returns-in_err-sum-clause-value
returns-in_err-sum-clause-value g c =
    let s = draft_symbols (g.R.StarRing.ring c.args.category.now.ring) g.R.StarRing.held c.args.category.now in
    let state = c.args.state.now in
    let e : List ℕ × g.row.R-Elem.Denot = (c.entry.result.0.now.items, c.entry.result.1.now) in
    let at : slice_get state.amps c.loop-place.place ≡ Some e = ap (λ es. slice_get es c.loop-place.place) (sym c.amps-in-loop-place.ensures) ∙ c.entry.ensures in
    let stops = ap (λ x. weight_step s state x c.loop-place.sum) (get_or_from_slice_get state.amps c.loop-place.place e e at) ∙ c.in_err-sum.ensures.value in
    err_gives _ _ c.from_residual.ensures.0
    (sym c.loop-place.invariant.left ∙ steps_over_none (weight_step s state) state.amps c.loop-place.place e c.loop-place.sum (slice_get_within state.amps c.loop-place.place e at) stops)

pub loop-place-preserved : goal.loop-place-preserved
loop-place-preserved g c =
    let s = draft_symbols (g.R.StarRing.ring c.args.category.now.ring) g.R.StarRing.held c.args.category.now in
    let state = c.args.state.now in
    let e : List ℕ × g.row.R-Elem.Denot = (c.entry.result.0.now.items, c.entry.result.1.now) in
    let at : slice_get state.amps c.loop-place.place ≡ Some e = ap (λ es. slice_get es c.loop-place.place) (sym c.amps-in-loop-place.ensures) ∙ c.entry.ensures in
    let gives = ap (λ x. weight_step s state x c.loop-place.sum) (get_or_from_slice_get state.amps c.loop-place.place e e at) ∙ c.in_ok-sum.ensures.value in
    record {
      left = sym (steps_over_one (weight_step s state) state.amps c.loop-place.place e c.loop-place.sum c.in_ok-sum.sum (slice_get_within state.amps c.loop-place.place e at) gives) ∙ c.loop-place.invariant.left;
      is_member = c.in_ok-sum.ensures.member;
    }

pub returns-clause-weighs : goal.returns-clause-weighs
returns-clause-weighs g c =
    let category = c.args.category.now in
    let s = draft_symbols (g.R.StarRing.ring category.ring) g.R.StarRing.held category in
    let state = c.args.state.now in
    let law = c.all_labels.ensures in
    let end : length state.amps ≤ c.loop-place.place = omega (arith, c.loop-place-test.false, c.len-place-end.ensures.len, ap (λ (es : List (List ℕ × g.row.R-Elem.Denot)). length es) c.amps-2.ensures) in
    weight_given s (g.met.R.StarRing.laws category.ring) state c.requires.of (subst (AreAmplitudes s.held) c.amps.ensures c.in_order.ensures) law.proper law.equations law.unit law.weighted c.loop-place.sum
    (sym c.loop-place.invariant.left ∙ steps_over_end (weight_step s state) state.amps c.loop-place.place c.loop-place.sum end)
