use Rattle.std.proofs.Common.{◌≡◌, ◌-◌, ℕ, slice_set}
use Rattle.std.specs.Prelude.{IsTrue}
use Rattle.ring_laws.specs.Stated.{steps}
use Rattle.symbol_table.specs.Category.{draft_symbols}
use Rattle.amp_store.specs.Amplitudes.{amplitude_of}
use Rattle.recouple.specs.Rotations.{before}
use Rattle.recouple.specs.Raises.{raise_step}
use Rattle.recouple.proofs.terms.raised_at.Given as goal

-- the old key is one of the sum but for its label at the node, and what is left gives the amplitude
abbrev pub invariant-loop-t : goal.invariant-loop-t
invariant-loop-t g l =
    let r = g.R.StarRing.ring l.category.ring in
    let c = draft_symbols r g.R.StarRing.held l.category in
    let step = raise_step c l.strands l.rotation (amplitude_of r l.amps) l.key.items in
    record {
      changed : (u : ℕ) → slice_set l.old_key.items (l.rotation.node - 1) u ≡ before l.rotation l.key.items u;
      left : steps step l.t (c.count - l.t) l.sum ≡ steps step 0 c.count r.zero;
      is_member : IsTrue (r.member l.sum);
    }
