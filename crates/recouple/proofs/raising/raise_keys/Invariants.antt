use Rattle.std.proofs.Common.{◌≡◌, ◌<◌, ℕ, List, length, take, true}
use Rattle.std.specs.Prelude.{is_some}
use Rattle.symbol_table.specs.Category.{draft_symbols}
use Rattle.amp_store.specs.Amplitudes.{amplitude_at, amplitude_of}
use Rattle.recouple.specs.Raises.{raised, raised_at}
use Rattle.recouple.specs.Targets.{keys_of}
use Rattle.amp_store.specs.Gathered.{among, gathered}
use Rattle.recouple.proofs.raising.raise_keys.Given as goal

-- the amplitudes at the keys so far, whose items fit; the last of them is known
abbrev pub invariant-loop-i : goal.invariant-loop-i
invariant-loop-i g l =
    let c = draft_symbols (g.R.StarRing.ring l.category.ring) g.R.StarRing.held l.category in
    let v = amplitude_of c.ring l.amps in
    let done = keys_of l.rotation l.amps (take l.i l.sources) in
    record {
      entries : (x : List ℕ) → amplitude_at l.new x ≡ gathered c.held (raised c l.strands l.rotation v) done x;
      fits : (x : List ℕ) → among x done ≡ true → is_some (raised_at c l.strands l.rotation v x) ≡ true;
      last : (x : List ℕ) → 0 < length x → l.last.items ≡ x → among x done ≡ true;
    }
