use Rattle.std.proofs.Common.{◌≡◌, ◌<◌, ◌-◌, ◌++◌, ◌∷◌, [], ◌∙◌, ℕ, true, List, length, ap, sym, subst, arith, slice_index}
use Rattle.std.specs.Prelude.{if◌then◌else◌, ◌==◌}
use Rattle.std.specs.List.{AllByRecursion, each_same, filter}
use Rattle.std.proofs.lemmas.List.{map-append}
use Rattle.symbol_table.specs.Category.{draft_symbols}
use Rattle.tree_shapes.specs.Outlines.{size}
use Rattle.word_runs.specs.Parts.{parts_of}
use Rattle.amp_store.specs.Amplitudes.{amplitude_at}
use Rattle.recouple.specs.States.{State}
use Rattle.charge_project.specs.Splits.{any_left, part_at}
use Rattle.charge_project.proofs.ProjectLemmas.{in_part}
use Rattle.charge_project.proofs.SplitLemmas.{any_is, keys_reach}
use Rattle.charge_project.proofs.parts.push_part.Given.{Over}
use Rattle.charge_project.proofs.parts.push_part.Goals as goal

pub keep_label-requires : goal.keep_label-requires
keep_label-requires g c =
    let s = draft_symbols (g.R.StarRing.ring c.args.category.now.ring) g.R.StarRing.held c.args.category.now in
    subst (λ (es : List (List ℕ × g.row.R-Elem.Denot)). AllByRecursion (λ (e : List ℕ × g.row.R-Elem.Denot). c.args.k - 1 < length e.0) es) (sym c.amps.ensures)
    (keys_reach s.ring s.count (length c.args.state.now.strands) c.args.k c.args.state.now.amps c.requires.of.over c.requires.low (omega (arith, c.requires.gap, c.requires.of.leaves)))

module _ (g : Over) (c : goal.After-copy g) where
  strands_are : c.in_ok-strands.strands.items ≡ c.args.state.now.strands
  strands_are = each_same c.strands.result.now.items c.in_ok-strands.strands.items c.in_ok-strands.ensures.cases ∙ c.strands.ensures

  amps_are : c.in_ok-amps.amps ≡ State.amps (part_at c.args.k c.args.state.now c.args.label)
  amps_are = c.in_ok-amps.ensures ∙ ap (filter (λ (e : List ℕ × g.row.R-Elem.Denot). slice_index e.0 (c.args.k - 1) == c.args.label)) c.amps.ensures

pub with_parts-part-requires-clause-leaves : goal.with_parts-part-requires-clause-leaves
with_parts-part-requires-clause-leaves g c = ap size (c.copy.ensures ∙ c.shape.ensures) ∙ (c.requires.of.leaves ∙ ap length (sym (strands_are g c)))

pub with_parts-part-requires-clause-keys : goal.with_parts-part-requires-clause-keys
with_parts-part-requires-clause-keys g c key v e =
    let there = in_part c.args.state.now.amps (c.args.k - 1) c.args.label key v (ap (λ es. amplitude_at es key) (sym (amps_are g c)) ∙ e) in
    ap length (strands_are g c) ∙ (c.requires.of.over.keys key v there).long

pub returns-in_ok-push : goal.returns-in_ok-push
returns-in_ok-push g c =
    let now = c.args.state.now in
    let old = parts_of (λ s. s) c.args.parts.now.items in
    let strands : c.in_ok-strands.strands.items ≡ c.args.state.now.strands = each_same c.strands.result.now.items c.in_ok-strands.strands.items c.in_ok-strands.ensures.cases ∙ c.strands.ensures in
    let amps : c.in_ok-amps.amps ≡ State.amps (part_at c.args.k c.args.state.now c.args.label) =
    c.in_ok-amps.ensures ∙ ap (filter (λ (e : List ℕ × g.row.R-Elem.Denot). slice_index e.0 (c.args.k - 1) == c.args.label)) c.amps.ensures in
    let state : c.with_parts-part.result ≡ part_at c.args.k c.args.state.now c.args.label = λ j. record {
      strands = (c.with_parts-part.ensures.strands ∙ strands) j;
      shape = (c.with_parts-part.ensures.shape ∙ (c.copy.ensures ∙ c.shape.ensures)) j;
      amps = (c.with_parts-part.ensures.amps ∙ amps) j;
    } in
    let long : 0 < length c.in_ok-amps.amps = omega (arith, c.len.ensures.len) in
    let some : any_left (State.amps (part_at c.args.k c.args.state.now c.args.label)) ≡ true = ap any_left (sym amps) ∙ any_is c.in_ok-amps.amps long in
    ap (parts_of (λ s. s)) c.in_ok-push.ensures.items
    ∙ (map-append (λ p. (p.label, p.state)) c.args.parts.now.items (record { label = c.args.label; state = c.with_parts-part.result } ∷ [])
    ∙ ((λ j. old ++ (c.args.label, state j) ∷ []) ∙ (λ j. old ++ (if sym some j then (c.args.label, part_at c.args.k c.args.state.now c.args.label) ∷ [] else []))))
