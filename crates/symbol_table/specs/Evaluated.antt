-- The stated evaluation of H and S: the conjugate first, then the factors of the formula from the left.
use Rattle.std.specs.Prelude.{ℕ, Option}
use Rattle.ring_laws.specs.Stated.{◌>>=◌, product_at, conjugate_at}
use Rattle.symbol_table.specs.Symbols.{Symbols}

module _ {E : Type 0} (c : Symbols E) where
  -- conj(F(a,b,c,d;e,f)) w(b,c,f) w(a,f,d) v(a,b,e) v(e,c,d), or none where a conjugate or a product of it doesn't fit
  abbrev pub h_stated : ℕ → ℕ → ℕ → ℕ → ℕ → ℕ → Option E
  h_stated a b k d f e = do
    turned ← conjugate_at c.ring (c.f a b k d e f)
    one ← product_at c.ring turned (c.w b k f)
    two ← product_at c.ring one (c.w a f d)
    three ← product_at c.ring two (c.v a b e)
    product_at c.ring three (c.v e k d)

  -- conj(R(b,a,c)) w(a,b,c) v(b,a,c), or none where a conjugate or a product of it doesn't fit
  abbrev pub s_stated : ℕ → ℕ → ℕ → Option E
  s_stated a b k = do
    turned ← conjugate_at c.ring (c.r b a k)
    weighted ← product_at c.ring turned (c.w a b k)
    product_at c.ring weighted (c.v b a k)
