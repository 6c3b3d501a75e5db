use Rattle.std.specs.Prelude.{IsTrue}
use Rattle.symbol_table.specs.Draft.{given}
use Rattle.symbol_table.proofs.MemberLemmas.{has_zero, h_member, standing}
use Rattle.symbol_table.proofs.derived.Derived.h_in.Goals as goal

pub h-requires : goal.h-requires
h-requires g c =
    let ring = g.R.StarRing.ring c.args.draft.now.ring in
    let laws = g.met.R.StarRing.laws c.args.draft.now.ring in
    let at = c.args.at.now in
    rw c.ring.ensures
    (standing (λ x. IsTrue (ring.member x)) _ _ (c.requires.holds.h at.a at.b at.c at.d at.f at.e c.requires.admissible)
    (h_member ring (has_zero laws) (given c.args.draft.now) at.a at.b at.c at.d at.f at.e))
