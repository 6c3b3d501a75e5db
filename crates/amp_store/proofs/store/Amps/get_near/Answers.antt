use Rattle.std.proofs.Common.{arith, ◌<◌, ap, ◌∙◌, length}
use Rattle.std.specs.Prelude.{Some}
use Rattle.amp_store.specs.Amplitudes.{amplitude_at}
use Rattle.amp_store.proofs.EditLemmas.{nonzero_at}
use Rattle.amp_store.proofs.SearchLemmas.{at_below, found_value, found_nothing}
use Rattle.amp_store.proofs.store.Amps.get_near.Goals as goal

pub index-requires : goal.index-requires
index-requires g c =
    let low : c.in-Ok.at < length c.deref.result.now = at_below c.deref.result.now c.args.key.now.items c.in-Ok.at c.in-Ok.ensures.found in
    omega (arith, c.deref.ensures.len)

pub returns-in-Ok-clause-value : goal.returns-in-Ok-clause-value
returns-in-Ok-clause-value g c =
    ap (λ v. Some v) c.deref-in-Ok.ensures
    ∙ (found_value c.self.inside.entries.items c.args.key.now.items c.in-Ok.at c.index.result.now (rw c.deref.ensures.value at c.in-Ok.ensures.found) c.index.ensures
    ∙ ap (λ es. amplitude_at es c.args.key.now.items) c.self.view_is)

pub returns-in-Err-clause-value : goal.returns-in-Err-clause-value
returns-in-Err-clause-value g c =
    found_nothing c.self.inside.entries.items c.args.key.now.items c.in-Err.field-0 c.self.invariant.ordered (rw c.deref.ensures.value at c.in-Err.ensures.absent)
    ∙ ap (λ es. amplitude_at es c.args.key.now.items) c.self.view_is

pub returns-in-Ok-clause-nonzero : goal.returns-in-Ok-clause-nonzero
returns-in-Ok-clause-nonzero g c v is =
    nonzero_at g.R.StarRing.held c.self.inside.entries.items c.args.key.now.items v c.self.invariant (ap (λ es. amplitude_at es c.args.key.now.items) c.self.view_is ∙ is)

pub returns-in-Err-clause-nonzero : goal.returns-in-Err-clause-nonzero
returns-in-Err-clause-nonzero g c v is =
    nonzero_at g.R.StarRing.held c.self.inside.entries.items c.args.key.now.items v c.self.invariant (ap (λ es. amplitude_at es c.args.key.now.items) c.self.view_is ∙ is)
