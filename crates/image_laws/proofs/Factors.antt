-- What a product takes from each of the two categories.
use Rattle.std.proofs.Common.{◌≡◌, ℕ, true, false}
use Rattle.std.specs.Prelude.{nat_lt}
use Rattle.ring_laws.specs.Ring.{Ring, Held}
use Rattle.ring_laws.proofs.SumLemmas.{if_no, if_yes}
use Rattle.symbol_table.specs.Symbols.{Given, Symbols, f_admissible, symbols_of}
use Rattle.symbol_table.specs.Laws.{IsLawful}
use Rattle.symbol_table.specs.AllLabels.{IsProper, HasUnit, IsWeighted, HasEquations}

-- The symbols are lawful, and obey the equations at all labels; H and S are their formulas; a twist or a loop value of no
-- label is zero.
pub record IsFactor {E : Type 0} (c : Symbols E) : Type 0 where
  pub second : c.version ≡ 2
  pub lawful : IsLawful c
  pub proper : IsProper c
  pub unit : HasUnit c
  pub weighted : IsWeighted c
  pub equations : HasEquations c
  pub h_is : (a b m d f e : ℕ) → f_admissible c.fuse a b m d e f ≡ true
      → c.h a b m d f e
      ≡ c.ring.product (c.ring.product (c.ring.product (c.ring.product (c.ring.conjugate (c.f a b m d e f)) (c.w b m f)) (c.w a f d)) (c.v a b e)) (c.v e m d)
  pub s_is : (a b e : ℕ) → c.fuse a b e ≡ true
      → c.s a b e ≡ c.ring.product (c.ring.product (c.ring.conjugate (c.r b a e)) (c.w a b e)) (c.v b a e)
  pub twist_off : (a : ℕ) → nat_lt a c.count ≡ false → c.twist a ≡ c.ring.zero
  pub loop_off : (a : ℕ) → nat_lt a c.count ≡ false → c.loop_value a ≡ c.ring.zero

-- the symbols over the ring of others
abbrev pub over : {E : Type 0} → (c d : Symbols E) → Symbols E
over c d = record d { ring = c.ring; held = c.held }

-- the symbols of what is given are a factor
pub is_factor : {E : Type 0} (ring : Ring E) (held : Held E) (g : Given E) → g.version ≡ 2 → IsLawful (symbols_of ring held g)
    → IsProper (symbols_of ring held g) → HasUnit (symbols_of ring held g) → IsWeighted (symbols_of ring held g) → HasEquations (symbols_of ring held g)
    → IsFactor (symbols_of ring held g)
is_factor ring held g second lawful proper unit weighted equations = record {
  second = second;
  lawful = lawful;
  proper = proper;
  unit = unit;
  weighted = weighted;
  equations = equations;
  h_is = λ a b m d f e on. if_yes (f_admissible g.fuse a b m d e f) _ ring.zero on;
  s_is = λ a b e on. if_yes (g.fuse a b e) _ ring.zero on;
  twist_off = λ a off. if_no (nat_lt a g.count) _ ring.zero off;
  loop_off = λ a off. if_no (nat_lt a g.count) _ ring.zero off;
}
