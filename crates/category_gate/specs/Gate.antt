-- What the gate answers of a draft.
use Rattle.std.specs.Prelude.{◌≡◌, Some, None, Result, Ok, Err}
use Rattle.fusion_rules.specs.Check.{rules_fault}
use Rattle.symbol_table.specs.Symbols.{Symbols}
use Rattle.symbol_table.specs.Laws.{IsLawful}
use Rattle.law_events.specs.Sides.{first_of_all}
use Rattle.law_events.specs.Verdicts.{EveryItemFits}
use Rattle.category_gate.specs.declared.GateFault.{GateFault}
use Rattle.category_gate.specs.declared.GateFault.TheVariants as fault

module _ {E : Type 0} (c : Symbols E) where
  -- a fault is the first of the rules, or the rules pass and it is the first event of the laws; where they pass, want of
  -- memory is free
  abbrev pub IsFirst : GateFault → Type 0
  IsFirst (fault.Rules found) = rules_fault c.count c.fuse ≡ Some found
  IsFirst (fault.Law event) = (rules_fault c.count c.fuse ≡ None) × (first_of_all c ≡ Some event)
  IsFirst fault.Memory = rules_fault c.count c.fuse ≡ None

  -- what is answered: the rules pass and no law has an event, or the first fault
  abbrev pub Admits : {A : Type 0} → Result A GateFault → Type 0
  Admits (Ok category) = (rules_fault c.count c.fuse ≡ None) × (first_of_all c ≡ None)
  Admits (Err found) = IsFirst found

  -- without a fault of the rules and without an event the symbols are lawful
  abbrev pub IsSound : Type 0
  IsSound = rules_fault c.count c.fuse ≡ None → first_of_all c ≡ None → IsLawful c

  -- lawful symbols whose items all fit have neither a fault of the rules nor an event
  abbrev pub IsComplete : Type 0
  IsComplete = IsLawful c → EveryItemFits c → (rules_fault c.count c.fuse ≡ None) × (first_of_all c ≡ None)

-- a fault that is want of memory
abbrev pub IsMemory : GateFault → Type 0
IsMemory (fault.Rules found) = ⊥
IsMemory (fault.Law event) = ⊥
IsMemory fault.Memory = Unit {0}

-- the answer is a category, or want of memory
abbrev pub IsOkOrMemory : {A : Type 0} → Result A GateFault → Type 0
IsOkOrMemory (Ok category) = Unit {0}
IsOkOrMemory (Err found) = IsMemory found
