-- What the check of the weight laws names.
use Rattle.std.specs.Prelude.{Result, Ok, Err}
use Rattle.derive_symbols.specs.declared.WeightFault.{WeightFault}
use Rattle.derive_symbols.specs.declared.WeightFault.TheVariants as fault

-- a fault that is want of memory, and no event
abbrev pub IsMemory : WeightFault → Type 0
IsMemory (fault.Law event) = ⊥
IsMemory fault.Memory = Unit {0}

-- the answer names no law: Ok, or want of memory
abbrev pub NamesNoLaw : {A : Type 0} → Result A WeightFault → Type 0
NamesNoLaw (Ok x) = Unit {0}
NamesNoLaw (Err fault) = IsMemory fault
