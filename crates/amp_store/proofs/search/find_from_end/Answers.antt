use Rattle.std.proofs.Common.{◌≡◌, ◌-◌, ◌<◌, ◌∙◌, true, length, sym, refl, get_or, arith}
use Rattle.std.specs.Ordering.{is_lt}
use Rattle.std.specs.declared.cmp.Ordering.{Ordering}
use Rattle.std.specs.declared.cmp.Ordering.TheVariants.{Less, Equal, Greater}
use Rattle.amp_store.specs.Amplitudes.{key_cmp}
use Rattle.amp_store.proofs.SearchLemmas.{gap_at, lower_half}
use Rattle.amp_store.proofs.search.find_from_end.Goals as goal

is_less : (o : Ordering) → is_lt o ≡ true → o ≡ Less
is_less Less h = refl
is_less Equal h = absurd (cc)
is_less Greater h = absurd (cc)

pub returns-then-is_lt-clause-absent : goal.returns-then-is_lt-clause-absent
returns-then-is_lt-clause-absent g c =
    let es = c.args.entries.now in
    let key = c.args.key.now.items in
    let last = length c.args.entries.now - 1 in
    let some : 0 < length c.args.entries.now = c.if-end-gt0.true in
    let low : length c.args.entries.now - 1 < length c.args.entries.now = omega (arith, some) in
    let less : key_cmp (get_or es last c.index-entries-end.result).key.items key ≡ Less =
    sym c.cmp.ensures ∙ is_less c.cmp.result (sym c.is_lt.ensures ∙ c.if-is_lt.true) in
    gap_at es key (length c.args.entries.now) (omega arith)
    (λ k d below. lower_half es key last c.index-entries-end.result c.requires low less k d (omega (arith, some, below)))
    (λ k d from below. absurd (omega (arith, from, below)))
