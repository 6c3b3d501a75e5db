-- Tables of the symbols of a draft, as numbers of kept values.
use Rattle.std.specs.Prelude.{◌≡◌, ℕ, ◌<◌, List, length, slice_index}
use Rattle.ring_laws.specs.Ring.{Ring}
use Rattle.symbol_table.specs.Symbols.{Symbols}
use Rattle.symbol_table.specs.Draft.{DraftValue}
use Rattle.kept_values.specs.Kept.{KeptValues, value_of}
use Rattle.shape_check.specs.declared.shape.Exchange.{Exchange}
use Rattle.shape_check.specs.declared.shape.Exchange.TheVariants.{Positive, Negative}
use Rattle.shape_check.specs.Place.{three, three_at, six, six_at}
use Rattle.shape_check.specs.Shapes.{symbol_of}

-- a draft, and values that are kept
pub record TableValue (R E : Type 0) : Type 0 where
  pub draft : DraftValue R E
  pub values : List E

-- a number is that of a value
pub record IsNumber {E : Type 0} (ring : Ring E) (values : List E) (x : E) (id : ℕ) : Type 0 where
  pub kept : id < length values
  pub value : value_of ring values id ≡ x

-- the numbers of the values at the first places
pub record AreFirst {E : Type 0} (ring : Ring E) (values : List E) (at : ℕ → E) (ids : List ℕ) : Type 0 where
  pub each : (k : ℕ) → k < length ids → IsNumber ring values (at k) (slice_index ids k)

-- the numbers of the values at so many places
pub record AreNumbers {E : Type 0} (ring : Ring E) (values : List E) (places : ℕ) (at : ℕ → E) (ids : List ℕ) : Type 0 where
  pub size : length ids ≡ places
  pub first : AreFirst ring values at ids

-- F at a place
abbrev pub f_at : {E : Type 0} → Symbols E → ℕ → E
f_at c k = let i = six_at c.count k in c.f i.a i.b i.c i.d i.e i.f

-- R or S at a place
abbrev pub vertex_at : {E : Type 0} → Symbols E → Exchange → ℕ → E
vertex_at c exchange k = let i = three_at c.count k in symbol_of c exchange i.a i.b i.c

-- the kept values are of the draft's ring, and the numbers those of its F, R and S
pub record IsTable {R E : Type 0} (c : Symbols E) (draft : DraftValue R E) (kept : KeptValues R E) (f r s : List ℕ) : Type 0 where
  pub same_ring : kept.ring ≡ draft.ring
  pub f_numbers : AreNumbers c.ring kept.values (six c.count) (f_at c) f
  pub r_numbers : AreNumbers c.ring kept.values (three c.count) (vertex_at c Positive) r
  pub s_numbers : AreNumbers c.ring kept.values (three c.count) (vertex_at c Negative) s
