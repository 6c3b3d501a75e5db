use Rattle.std.proofs.Common.{◌≡◌, ℕ, ◌<◌, length, []}
use Rattle.std.specs.Prelude.{slice_index_or}
use Rattle.poly_core.specs.Rho.{rho}
use Rattle.poly_core.specs.Table.{at}
use Rattle.poly_core.specs.declared.limits.TheConstants.{ROOT_LIMIT}
use Rattle.poly_core.proofs.power.rows_of.Given as goal

abbrev pub invariant-loop-k : goal.invariant-loop-k
invariant-loop-k l = record {
  row : at l.row ≡ rho l.n l.k;
  rows : (i : ℕ) → i < l.k → at (slice_index_or l.rows i []) ≡ rho l.n i;
  len : length l.rows ≡ ROOT_LIMIT;
}
