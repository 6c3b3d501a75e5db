use Rattle.std.proofs.Common.{arith, ◌<◌, ◌≤◌, ◌+◌, ◌-◌, ◌/◌, ◌∙◌, sym, ap, length}
use Rattle.std.proofs.lemmas.List.{get_or_default}
use Rattle.amp_store.specs.Amplitudes.{key_cmp}
use Rattle.amp_store.specs.declared.entry.Entry.{Entry}
use Rattle.amp_store.proofs.SearchLemmas.{found_at, gap_at, lower_half, upper_half}
use Rattle.amp_store.proofs.search.find.Goals as goal

pub loop-low-preserved-in-Less : goal.loop-low-preserved-in-Less
loop-low-preserved-in-Less g c =
    let low : c.loop-low.low + (c.loop-low.high - c.loop-low.low) / 2 < length c.args.entries.now = omega (arith, c.loop-low.invariant.inside, c.loop-low-test.true) in
    record {
      order = omega (arith, c.loop-low-test.true);
      inside = c.loop-low.invariant.inside;
      before = lower_half c.args.entries.now c.args.key.now.items _ c.index-entries-middle.result c.requires low (sym c.cmp.ensures ∙ c.in-Less.is);
      after = c.loop-low.invariant.after;
    }

pub loop-low-preserved : goal.loop-low-preserved
loop-low-preserved g c =
    let low : c.loop-low.low + (c.loop-low.high - c.loop-low.low) / 2 < length c.args.entries.now = omega (arith, c.loop-low.invariant.inside, c.loop-low-test.true) in
    record {
      order = omega (arith, c.loop-low-test.true);
      inside = omega (arith, c.loop-low.invariant.inside, c.loop-low-test.true);
      before = c.loop-low.invariant.before;
      after = upper_half c.args.entries.now c.args.key.now.items _ c.index-entries-middle.result c.requires low (sym c.cmp.ensures ∙ c.in-Greater.is);
    }

pub returns-in-Equal-clause-found : goal.returns-in-Equal-clause-found
returns-in-Equal-clause-found g c =
    let low : c.loop-low.low + (c.loop-low.high - c.loop-low.low) / 2 < length c.args.entries.now = omega (arith, c.loop-low.invariant.inside, c.loop-low-test.true) in
    found_at c.args.entries.now c.args.key.now.items _ c.requires low
    (λ d. ap (λ (x : Entry g.row.R.Denot g.row.R-Elem.Denot). key_cmp x.key.items c.args.key.now.items) (get_or_default c.args.entries.now _ d c.index-entries-middle.result low)
    ∙ (sym c.cmp.ensures ∙ c.in-Equal.is))

pub returns-clause-absent : goal.returns-clause-absent
returns-clause-absent g c =
    let inv = c.loop-low.invariant in
    let order : c.loop-low.low ≤ c.loop-low.high = inv.order in
    let end : c.loop-low.high ≤ c.loop-low.low = c.loop-low-test.false in
    gap_at c.args.entries.now c.args.key.now.items c.loop-low.low (omega (arith, inv.inside)) inv.before (λ k d from below. inv.after k d (omega arith) below)
