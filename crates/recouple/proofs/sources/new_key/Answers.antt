use Rattle.std.proofs.Common.{ℕ, List, length, ap, sym, subst, ◌∙◌}
use Rattle.recouple.specs.Rotations.{IsPlace, after}
use Rattle.recouple.proofs.EndLemmas.{key_there}
use Rattle.recouple.proofs.sources.new_key.Goals as goal

pub after-requires-clause-node : goal.after-requires-clause-node
after-requires-clause-node g c =
    subst (λ (k : List ℕ). IsPlace (length k) c.args.rotation.now.node) (key_there c.args.amps.now c.args.source.now.place (c.entry.result.0.now.items, c.entry.result.1.now) c.entry.ensures) c.requires.node

pub after-requires-clause-parent : goal.after-requires-clause-parent
after-requires-clause-parent g c =
    subst (λ (k : List ℕ). IsPlace (length k) c.args.rotation.now.parent) (key_there c.args.amps.now c.args.source.now.place (c.entry.result.0.now.items, c.entry.result.1.now) c.entry.ensures) c.requires.parent

pub returns : goal.returns
returns g c =
    c.after.ensures ∙ ap (λ (k : List ℕ). after c.args.rotation.now k c.args.source.now.to)
    (sym (key_there c.args.amps.now c.args.source.now.place (c.entry.result.0.now.items, c.entry.result.1.now) c.entry.ensures))
