-- The items of two laws.
use Rattle.std.specs.Prelude.{ℕ, Option}
use Rattle.ring_laws.specs.Ring.{Ring}
use Rattle.ring_laws.specs.Stated.{◌>>=◌, product3_at, conjugate_at}
use Rattle.fusion_rules.specs.Check.{dual_of}
use Rattle.symbol_table.specs.Symbols.{Symbols}

-- x conj(x) times a weight, from the left
abbrev pub norm_at : {E : Type 0} → Ring E → E → E → Option E
norm_at ring x weight = do
  turned ← conjugate_at ring x
  product3_at ring x turned weight

-- F(a,a*,a,a;1,1), with a* the dual of a
abbrev pub rigid_f : {E : Type 0} → Symbols E → ℕ → E
rigid_f c a = c.f a (dual_of c.count c.fuse a) a a 0 0
