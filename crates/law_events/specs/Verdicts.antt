-- When laws hold, and when their items fit.
use Rattle.std.specs.Prelude.{◌≡◌, ℕ, ◌<◌, List, All, length, true, Some, None}
use Rattle.symbol_table.specs.Symbols.{Symbols}
use Rattle.symbol_table.specs.Laws.{LawHolds, form_of, fuse_all, laws_of}
use Rattle.symbol_table.specs.declared.law.Law.{Law}
use Rattle.symbol_table.specs.declared.law.Kind.TheVariants.{Overflow}
use Rattle.law_events.specs.Sides.{first_of_all, verdict}

module _ {E : Type 0} (c : Symbols E) where
  -- an index of a law: as many labels below the count as it has places, which fuse at each of its triples
  pub record IsIndex (law : Law) (i : List ℕ) : Type 0 where
    pub long : length i ≡ (form_of law).places
    pub labels : All (λ t. t < c.count) i
    pub admissible : fuse_all c.fuse i (form_of law).triples ≡ true

  -- every item of a law fits
  abbrev pub Fits : Law → Type 0
  Fits law = (i : List ℕ) → IsIndex law i → verdict c law i ≡ Some Overflow → ⊥

  -- each of some laws holds
  abbrev pub AllHold : List Law → Type 0
  AllHold laws = All (LawHolds c) laws

  -- every item of each of some laws fits
  abbrev pub AllFit : List Law → Type 0
  AllFit laws = All Fits laws

  -- every item of the check fits
  abbrev pub EveryItemFits : Type 0
  EveryItemFits = AllFit (laws_of c.version)

  -- without an event each law of the version holds
  abbrev pub HoldsWithoutEvent : Type 0
  HoldsWithoutEvent = first_of_all c ≡ None → AllHold (laws_of c.version)

  -- laws that hold and whose items all fit have no event
  abbrev pub NoEventWhereHolds : Type 0
  NoEventWhereHolds = AllHold (laws_of c.version) → EveryItemFits → first_of_all c ≡ None
