-- The evaluation that H begins with, and that S is.
use Rattle.std.specs.Prelude.{Option}
use Rattle.ring_laws.specs.Ring.{Ring}
use Rattle.ring_laws.specs.Stated.{◌>>=◌, product_at, conjugate_at}

-- the conjugate of a value, times two weights from the left
abbrev pub weighted : {E : Type 0} → Ring E → E → E → E → Option E
weighted ring x first second = do
  turned ← conjugate_at ring x
  once ← product_at ring turned first
  product_at ring once second
