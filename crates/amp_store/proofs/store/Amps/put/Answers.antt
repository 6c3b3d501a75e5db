use Rattle.std.proofs.Common.{ap, ◌∙◌, ◌≡◌}
use Rattle.std.specs.Prelude.{Some, if◌then◌else◌}
use Rattle.std.specs.Str.{bytes_eq}
use Rattle.std.specs.BTreeMap.{insert_entry}
use Rattle.amp_store.specs.Amplitudes.{amplitude_at, key_cmp}
use Rattle.amp_store.specs.Places.{amplitudes_in}
use Rattle.amp_store.proofs.EditLemmas.{amplitudes_put, found_put}
use Rattle.amp_store.proofs.store.Amps.put.Goals as goal

pub invariant_of-self-2 : goal.invariant_of-self-2
invariant_of-self-2 g c =
    let held = g.R.StarRing.held in
    let old = amplitudes_in c.self.inside.entries.items in
    let new : amplitudes_in c.place.new.entries.items ≡ insert_entry key_cmp old c.args.key.items c.args.value =
    c.in_ok-place.ensures.ok ∙ ap (insert_entry key_cmp old c.args.key.items) c.in_ok-value.ensures.ok in
    rw new (amplitudes_put held old c.args.key.items c.args.value c.requires c.self.invariant)

pub returns-clause-puts : goal.returns-clause-puts
returns-clause-puts g c x =
    let old = amplitudes_in c.self.inside.entries.items in
    let new : amplitudes_in c.place.new.entries.items ≡ insert_entry key_cmp old c.args.key.items c.args.value =
    c.in_ok-place.ensures.ok ∙ ap (insert_entry key_cmp old c.args.key.items) c.in_ok-value.ensures.ok in
    ap (λ es. amplitude_at es x) new
    ∙ (found_put c.args.key.items c.args.value old x
    ∙ ap (λ es. if bytes_eq c.args.key.items x then Some c.args.value else amplitude_at es x) c.self.view_is)
