-- A category in the making: which values stand, and what putting one more does.
use Rattle.std.specs.Prelude.{◌≡◌, ℕ, zero, suc, ◌<◌, true, List, [], ◌∷◌, ◌++◌, Option, Some, None, is_some, slice_index, Result, Ok, Err}
use Rattle.cyclo_core.specs.Ratio.{Ratio}
use Rattle.fusion_rules.specs.Fusion.{fuses}
use Rattle.symbol_table.specs.Symbols.{Symbols}
use Rattle.symbol_table.specs.Index.{f_index, v_index}
use Rattle.symbol_table.specs.declared.index.FIndex.{FIndex}
use Rattle.symbol_table.specs.declared.index.VIndex.{VIndex}
use Rattle.symbol_table.specs.Draft.{given}
use Rattle.symbol_table.specs.Derived.{h_put, s_put}
use Rattle.symbol_table.specs.Laws.{at1, at3, at6, fuse_all}
use Rattle.law_events.specs.First.{first_over}
use Rattle.category_images.specs.Places.{first_in, missing_at, places, triples, value_at}
use Rattle.category_images.specs.declared.place.Place.{Place}
use Rattle.category_images.specs.declared.place.Symbol.{Symbol}
use Rattle.category_images.specs.declared.place.Symbol.TheVariants.{F, R, W, V, H, S, Twist, Loop}
use Rattle.category_images.specs.declared.making.Making.{Making}
use Rattle.category_images.specs.declared.making.Stop.{Stop}
use Rattle.category_images.specs.declared.making.Stop.TheVariants as stop

-- the index of F of the labels a, b, c, d, e, f; that of the labels of H, where f comes before e; and of a vertex
abbrev pub f_at : List ℕ → FIndex
f_at i = f_index (slice_index i 0) (slice_index i 1) (slice_index i 2) (slice_index i 3) (slice_index i 4) (slice_index i 5)

abbrev pub h_at : List ℕ → FIndex
h_at i = f_index (slice_index i 0) (slice_index i 1) (slice_index i 2) (slice_index i 3) (slice_index i 5) (slice_index i 4)

abbrev pub v_at : List ℕ → VIndex
v_at i = v_index (slice_index i 0) (slice_index i 1) (slice_index i 2)

-- the value of a symbol that stands at an index
abbrev pub stood : Making → Symbol → List ℕ → Option Ratio
stood made F = at6 (given made.draft).set_f
stood made R = at3 (given made.draft).set_r
stood made W = at3 (given made.draft).set_w
stood made V = at3 (given made.draft).set_v
stood made H = at6 (h_put made.derived)
stood made S = at3 (s_put made.derived)
stood made Twist = at1 (given made.draft).set_twist
stood made Loop = at1 (given made.draft).set_loop

abbrev pub Stands : Making → Symbol → List ℕ → Type 0
Stands made symbol index = is_some (stood made symbol index) ≡ true

-- twists and loop values belong to version 2 alone
abbrev pub Belongs : ℕ → Symbol → Type 0
Belongs version Twist = version ≡ 2
Belongs version Loop = version ≡ 2
Belongs version symbol = Unit {0}

-- every value that stands is the wanted one
abbrev pub AreRight : Symbols Ratio → Making → Type 0
AreRight w made = (symbol : Symbol) (index : List ℕ) (value : Ratio) → stood made symbol index ≡ Some value → value ≡ value_at w symbol index

-- where a value stood, one stands
abbrev pub Keeps : (old new : Making) → Type 0
Keeps old new = (symbol : Symbol) (index : List ℕ) → Stands old symbol index → Stands new symbol index

-- A value is put at an index, if none stood there: the version, the ring and the rules are the same, and right values stay
-- right, if this one is right.
pub record Puts (symbol : Symbol) (index : List ℕ) (value : Ratio) (old new : Making) : Type 0 where
  pub version : new.draft.version ≡ old.draft.version
  pub ring : new.draft.ring ≡ old.draft.ring
  pub rules : new.draft.rules ≡ old.draft.rules
  pub stands : Stands new symbol index
  pub keeps : Keeps old new
  pub right : (w : Symbols Ratio) → value ≡ value_at w symbol index → AreRight w old → AreRight w new

module _ (root : ℕ) (w : Symbols Ratio) where
  -- the version, the ring and the rules are the wanted ones, and so is every value that stands
  pub record IsOf (made : Making) : Type 0 where
    pub version : made.draft.version ≡ w.version
    pub ring : made.draft.ring ≡ root
    pub count : made.draft.rules.count ≡ w.count
    pub fuse : (a b c : ℕ) → fuses made.draft.rules a b c ≡ w.fuse a b c
    pub right : AreRight w made

  -- a value stands at an index, if that is admissible
  abbrev pub StandsAt : Making → Symbol → List ℕ → Type 0
  StandsAt made symbol index = fuse_all w.fuse index (triples symbol) ≡ true → Stands made symbol index

  -- values stand at each index that goes on with so many more labels
  abbrev pub StandOver : Making → Symbol → ℕ → List ℕ → Type 0
  StandOver made symbol zero index = StandsAt made symbol index
  StandOver made symbol (suc more) index = (t : ℕ) → t < w.count → StandOver made symbol more (index ++ t ∷ [])

  -- values of some symbols stand at each index
  abbrev pub AllStand : Making → List Symbol → Type 0
  AllStand made [] = Unit {0}
  AllStand made (symbol ∷ symbols) = StandOver made symbol (places symbol) [] × AllStand made symbols

  module _ (stated : Symbol → List ℕ → Option Ratio) where
    -- what a walk over the indices that go on with so many more labels does, where no item stops it
    pub record IsFilled (symbol : Symbol) (more : ℕ) (index : List ℕ) (old new : Making) : Type 0 where
      pub none : first_over w.count (missing_at w.count w.fuse stated symbol) more index ≡ None
      pub of : IsOf new
      pub keeps : Keeps old new
      pub over : StandOver new symbol more index

    -- a stop is the place that is stated; want of memory is free
    abbrev pub IsStop : Stop → Option Place → Type 0
    IsStop (stop.Overflow place) found = found ≡ Some place
    IsStop stop.Memory found = Unit {0}

    abbrev pub Fills : {A : Type 0} → Result A Stop → Symbol → ℕ → List ℕ → (old new : Making) → Type 0
    Fills (Ok x) symbol more index old new = IsFilled symbol more index old new
    Fills (Err cause) symbol more index old new = IsStop cause (first_over w.count (missing_at w.count w.fuse stated symbol) more index)

    -- the same of several symbols in turn
    pub record AreFilled (symbols : List Symbol) (new : Making) : Type 0 where
      pub none : first_in w.count w.fuse stated symbols ≡ None
      pub of : IsOf new
      pub stand : AllStand new symbols

    abbrev pub FillsAll : {A : Type 0} → Result A Stop → List Symbol → Making → Type 0
    FillsAll (Ok x) symbols new = AreFilled symbols new
    FillsAll (Err cause) symbols new = IsStop cause (first_in w.count w.fuse stated symbols)
