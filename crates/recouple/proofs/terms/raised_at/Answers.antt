use Rattle.std.proofs.Common.{rules, ◌≡◌, ◌<◌, ◌-◌, ◌∙◌, List, ℕ, Some, ap, sym, set}
use Rattle.std.proofs.lemmas.List.{set-set}
use Rattle.ring_laws.proofs.StatedLemmas.{steps_one}
use Rattle.symbol_table.specs.Category.{draft_symbols}
use Rattle.amp_store.specs.Amplitudes.{amplitude_of}
use Rattle.recouple.specs.Raises.{raise_step}
use Rattle.recouple.proofs.terms.raised_at.Goals as goal

pub loop-t-preserved : goal.loop-t-preserved
loop-t-preserved g c =
    let r = g.R.StarRing.ring c.args.category.now.ring in
    let s = draft_symbols r g.R.StarRing.held c.args.category.now in
    let node = c.args.rotation.now.node - 1 in
    let t = c.loop-t.t in
    let step = raise_step s c.args.strands.now c.args.rotation.now (amplitude_of r c.args.amps.now) c.args.key.now.items in
    let low : t < s.count = search rules in
    let stepped : step t c.loop-t.sum ≡ Some c.raise_term.new.sum = c.in_ok-raise_term.ensures.ok in
    record {
      changed = λ u. ap (λ (x : List ℕ). set x node u) c.set_label.ensures ∙ (set-set c.loop-t.old_key.items node t u ∙ c.loop-t.invariant.changed u);
      left = sym (steps_one step t s.count c.loop-t.sum c.raise_term.new.sum low stepped) ∙ c.loop-t.invariant.left;
      is_member = c.in_ok-raise_term.ensures.member;
    }
