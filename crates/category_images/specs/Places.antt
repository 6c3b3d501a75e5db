-- The symbols of a category one by one, in the order in which those of a new category are made.
use Rattle.std.specs.Prelude.{ℕ, Bool, List, [], ◌∷◌, ◌==◌, Option, Some, None, if◌then◌else◌}
use Rattle.std.specs.Option.{option_or}
use Rattle.symbol_table.specs.Symbols.{Symbols}
use Rattle.symbol_table.specs.Laws.{at1, at3, at6, derive_h_triples, fuse_all, unit_f_triples, vertex_triples}
use Rattle.symbol_table.specs.declared.law.Triple.{Triple}
use Rattle.law_events.specs.First.{first_over}
use Rattle.category_images.specs.declared.place.Place.{Place}
use Rattle.category_images.specs.declared.place.Symbol.{Symbol}
use Rattle.category_images.specs.declared.place.Symbol.TheVariants.{F, R, W, V, H, S, Twist, Loop}

-- how many labels an index has: a b c d e f of F, a b c d f e of H, a b c of a vertex, a of a label
abbrev pub places : Symbol → ℕ
places F = 6
places R = 3
places W = 3
places V = 3
places H = 6
places S = 3
places Twist = 1
places Loop = 1

-- which of them have to fuse
abbrev pub triples : Symbol → List Triple
triples F = unit_f_triples
triples R = vertex_triples
triples W = vertex_triples
triples V = vertex_triples
triples H = derive_h_triples
triples S = vertex_triples
triples Twist = []
triples Loop = []

-- the value of a symbol at an index
abbrev pub value_at : {E : Type 0} → Symbols E → Symbol → List ℕ → E
value_at c F = at6 c.f
value_at c R = at3 c.r
value_at c W = at3 c.w
value_at c V = at3 c.v
value_at c H = at6 c.h
value_at c S = at3 c.s
value_at c Twist = at1 c.twist
value_at c Loop = at1 c.loop_value

-- the symbols of a version, in their order: twists and loop values are made in version 2 alone
abbrev pub symbols_in : ℕ → List Symbol
symbols_in version = F ∷ R ∷ W ∷ V ∷ H ∷ S ∷ (if version == 2 then Twist ∷ Loop ∷ [] else [])

-- the place of an item that has no value, since it doesn't fit
abbrev pub missing : {E : Type 0} → Symbol → List ℕ → Option E → Option Place
missing symbol index (Some value) = None
missing symbol index None = Some (record { symbol = symbol; index = index })

module _ {E : Type 0} (count : ℕ) (fuse : ℕ → ℕ → ℕ → Bool) (stated : Symbol → List ℕ → Option E) where
  -- the place of a symbol at an admissible index, if its item doesn't fit
  abbrev pub missing_at : Symbol → List ℕ → Option Place
  missing_at symbol index = if fuse_all fuse index (triples symbol) then missing symbol index (stated symbol index) else None

  -- the first such place of a symbol, in the order of the labels
  abbrev pub first_of : Symbol → Option Place
  first_of symbol = first_over count (missing_at symbol) (places symbol) []

  -- the first of several symbols
  abbrev pub first_in : List Symbol → Option Place
  first_in [] = None
  first_in (symbol ∷ symbols) = option_or (first_of symbol) (first_in symbols)

-- the first item of a new category that doesn't fit
abbrev pub first_place : {E : Type 0} → Symbols E → (Symbol → List ℕ → Option E) → Option Place
first_place c stated = first_in c.count c.fuse stated (symbols_in c.version)
