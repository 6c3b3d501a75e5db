use Rattle.std.proofs.Common.{arith, ◌<◌, ◌≤◌, ◌∙◌, ap, length}
use Rattle.amp_store.specs.Places.{amplitudes_in}
use Rattle.amp_store.proofs.SearchLemmas.{at_below, gap_below}
use Rattle.amp_store.proofs.EditLemmas.{set_is, insert_is}
use Rattle.amp_store.proofs.search.place.Goals as goal

pub index_mut-requires : goal.index_mut-requires
index_mut-requires g c =
    let low : c.in-Ok.at < length c.deref.result.now = at_below c.deref.result.now c.args.entry.key.items c.in-Ok.at c.in-Ok.ensures.found in
    omega (arith, c.deref.ensures.len)

pub insert-requires : goal.insert-requires
insert-requires g c =
    let low : c.in-Err.at ≤ length c.deref.result.now = gap_below c.deref.result.now c.args.entry.key.items c.in-Err.at c.in-Err.ensures.absent in
    omega (arith, c.deref.ensures.len)

pub returns-in-Ok-clause-ok : goal.returns-in-Ok-clause-ok
returns-in-Ok-clause-ok g c = set_is c.args.entries.now.items c.args.entry c.in-Ok.at (rw c.deref.ensures.value at c.in-Ok.ensures.found)

pub returns-in_ok-insert-in-Err-clause-ok : goal.returns-in_ok-insert-in-Err-clause-ok
returns-in_ok-insert-in-Err-clause-ok g c =
    ap amplitudes_in c.in_ok-insert-in-Err.ensures.items ∙ insert_is c.args.entries.now.items c.args.entry c.in-Err.at (rw c.deref.ensures.value at c.in-Err.ensures.absent)
