use Rattle.std.proofs.Common.{◌≡◌, ◌<◌, ◌∙◌, ap, sym, length, get_or}
use Rattle.std.proofs.lemmas.List.{get_or_default}
use Rattle.std.proofs.lemmas.Slice.Eq.{bytes_eq-Decides}
use Rattle.amp_store.specs.Amplitudes.{key_cmp}
use Rattle.amp_store.specs.declared.entry.Entry.{Entry}
use Rattle.amp_store.proofs.EditLemmas.{same_keys}
use Rattle.amp_store.proofs.SearchLemmas.{found_at}
use Rattle.amp_store.proofs.search.find_near.Goals as goal

pub returns-then-eq-clause-found : goal.returns-then-eq-clause-found
returns-then-eq-clause-found g c =
    let here = (get_or c.args.entries.now c.args.place c.index-entries-place.result).key.items in
    let key = c.args.key.now.items in
    let low : c.args.place < length c.args.entries.now = c.if-place-entries.true in
    let same : here ≡ key = (bytes_eq-Decides here key).0 (sym c.eq.ensures ∙ c.if-eq.true) in
    found_at c.args.entries.now key c.args.place c.requires low
    (λ d. ap (λ (x : Entry g.row.R.Denot g.row.R-Elem.Denot). key_cmp x.key.items key) (get_or_default c.args.entries.now c.args.place d c.index-entries-place.result low)
    ∙ same_keys here key same)
