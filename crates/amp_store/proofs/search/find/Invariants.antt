use Rattle.std.proofs.Common.{◌≡◌, ◌-◌, ◌<◌, ◌≤◌, ℕ, length, get_or}
use Rattle.std.specs.declared.cmp.Ordering.TheVariants.{Less, Greater}
use Rattle.amp_store.specs.Amplitudes.{key_cmp}
use Rattle.amp_store.specs.declared.entry.Entry.{Entry}
use Rattle.amp_store.proofs.search.find.Given as goal

-- smaller keys before low, and greater ones from high on
abbrev pub invariant-loop-low : goal.invariant-loop-low
invariant-loop-low g l = record {
  order : l.low ≤ l.high;
  inside : l.high ≤ length l.entries;
  before : (k : ℕ) (d : Entry g.row.R.Denot g.row.R-Elem.Denot) → k < l.low → key_cmp (get_or l.entries k d).key.items l.key.items ≡ Less;
  after : (k : ℕ) (d : Entry g.row.R.Denot g.row.R-Elem.Denot) → l.high ≤ k → k < length l.entries → key_cmp (get_or l.entries k d).key.items l.key.items ≡ Greater;
}

abbrev pub decreases-loop-low : goal.decreases-loop-low
decreases-loop-low g l = l.high - l.low
