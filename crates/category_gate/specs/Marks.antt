-- The items of the laws of loop values.
use Rattle.std.specs.Prelude.{ℕ, Option}
use Rattle.ring_laws.specs.Stated.{product_at}
use Rattle.symbol_table.specs.Symbols.{Symbols}
use Rattle.law_events.specs.Sides.{product4_at}

module _ {E : Type 0} (c : Symbols E) where
  -- d_a d_b
  abbrev pub loop_product : ℕ → ℕ → Option E
  loop_product a b = product_at c.ring (c.loop_value a) (c.loop_value b)

  -- d_a d_a F(a,b,a,a;1,1) H(a,b,a,a;1,1)
  abbrev pub loop_over : ℕ → ℕ → Option E
  loop_over a b = product4_at c.ring (c.loop_value a) (c.loop_value a) (c.f a b a a 0 0) (c.h a b a a 0 0)
