use Rattle.std.proofs.Common.{◌≡◌, ◌≤◌, [], sym, arith, subst}
use Rattle.std.specs.Prelude.{unsigned_abs, slice_index_or}
use Rattle.poly_core.specs.Combination.{Sequence}
use Rattle.poly_core.specs.Rho.{rho}
use Rattle.poly_core.specs.Table.{at}
use Rattle.poly_core.proofs.RhoLemmas.{accepted_small, rho_tiny}
use Rattle.poly_core.proofs.power.PowerTable.row.Goals as goal

pub bounds-self-inside-from : goal.bounds-self-inside-from
bounds-self-inside-from c = omega (arith, accepted_small _ c.self.invariant.0, c.self.view_is, c.from.ensures)

pub returns-clause-tiny : goal.returns-clause-tiny
returns-clause-tiny c =
    let is : at (slice_index_or c.self.inside.rows c.from.result []) ≡ rho c.self.inside.root c.from.result = c.self.invariant.2 c.from.result (omega (arith, c.self.view_is, c.from.ensures, c.requires)) in
    λ j. subst (λ (f : Sequence). unsigned_abs (f j) ≤ 1) (sym is) (rho_tiny c.self.inside.root c.from.result j)
