-- A walk over the indices of one kind of symbol, which puts the values.
use Rattle.std.specs.Prelude.{◌≡◌, ℕ, zero, suc, ◌<◌, Bool, true, ◌&&◌, List, [], ◌∷◌, ◌++◌, Option, Some, None, slice_index, Result, Ok, Err}
use Rattle.ring_laws.specs.Ring.{Ring, Held}
use Rattle.symbol_table.specs.Symbols.{Given, f_admissible, h_of, s_of, symbols_of}
use Rattle.symbol_table.specs.Derived.{DerivedValue, h_put, s_put}
use Rattle.symbol_table.specs.Laws.{form_of}
use Rattle.symbol_table.specs.declared.law.Law.{Law}
use Rattle.symbol_table.specs.declared.law.Law.TheVariants.{DeriveH, DeriveS}
use Rattle.symbol_table.specs.declared.law.Event.{Event}
use Rattle.law_events.specs.First.{event_at, first_over}
use Rattle.law_events.specs.Sides.{verdict}
use Rattle.derive_symbols.specs.Told.{IsFault}
use Rattle.derive_symbols.specs.declared.WeightFault.{WeightFault}
use Rattle.derive_symbols.specs.declared.walk.Symbol.{Symbol}
use Rattle.derive_symbols.specs.declared.walk.Symbol.TheVariants as kind

-- the law that a symbol has a value
abbrev pub law_of : Symbol → Law
law_of kind.H = DeriveH
law_of kind.S = DeriveS

-- how many labels an index has: a b c d f e, or a b c
abbrev pub places : Symbol → ℕ
places symbol = (form_of (law_of symbol)).places

-- labels a b c d f that some e may complete: N(b,c,f) and N(a,f,d)
abbrev pub goes_on : (ℕ → ℕ → ℕ → Bool) → Symbol → List ℕ → Bool
goes_on fuse kind.H (a ∷ b ∷ c ∷ d ∷ f ∷ []) = fuse b c f && fuse a f d
goes_on fuse symbol index = true

module _ {E : Type 0} (ring : Ring E) (g : Given E) where
  abbrev pub HoldsH : DerivedValue E → ℕ → ℕ → ℕ → ℕ → ℕ → ℕ → Type 0
  HoldsH derived a b c d f e = f_admissible g.fuse a b c d e f ≡ true → h_put derived a b c d f e ≡ Some (h_of ring g a b c d f e)

  abbrev pub HoldsS : DerivedValue E → ℕ → ℕ → ℕ → Type 0
  HoldsS derived a b c = g.fuse a b c ≡ true → s_put derived a b c ≡ Some (s_of ring g a b c)

  -- the value stands at an index, if that is admissible
  abbrev pub HoldsAt : DerivedValue E → Symbol → List ℕ → Type 0
  HoldsAt derived kind.H i = HoldsH derived (slice_index i 0) (slice_index i 1) (slice_index i 2) (slice_index i 3) (slice_index i 4) (slice_index i 5)
  HoldsAt derived kind.S i = HoldsS derived (slice_index i 0) (slice_index i 1) (slice_index i 2)

  -- the values stand at each index that goes on with so many more labels
  abbrev pub HoldsOver : DerivedValue E → Symbol → ℕ → List ℕ → Type 0
  HoldsOver derived symbol zero index = HoldsAt derived symbol index
  HoldsOver derived symbol (suc more) index = (t : ℕ) → t < g.count → HoldsOver derived symbol more (index ++ t ∷ [])

  -- what stood before stands
  abbrev pub Keeps : (old new : DerivedValue E) → Type 0
  Keeps old new = (symbol : Symbol) (index : List ℕ) → HoldsAt old symbol index → HoldsAt new symbol index

module _ {E : Type 0} (ring : Ring E) (held : Held E) (g : Given E) where
  -- the event of a symbol at an index
  abbrev pub stop_at : Symbol → List ℕ → Option Event
  stop_at symbol = event_at g.fuse (law_of symbol) (verdict (symbols_of ring held g) (law_of symbol))

  -- what a walk answers: the values stand and old ones are kept where nothing stops, or the first event
  abbrev pub Fills : {A : Type 0} → Result A WeightFault → Symbol → ℕ → List ℕ → (old new : DerivedValue E) → Type 0
  Fills (Ok x) symbol more index old new =
      (first_over g.count (stop_at symbol) more index ≡ None) × Keeps ring g old new × HoldsOver ring g new symbol more index
  Fills (Err stop) symbol more index old new = IsFault stop (first_over g.count (stop_at symbol) more index)
