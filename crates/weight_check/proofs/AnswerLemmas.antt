-- Answers of checks whose laws are put together, and what they say of the laws.
use Rattle.std.proofs.Common.{◌≡◌, List, [], ◌∷◌, ◌++◌, Option, Some, None, Result, Ok, Err, refl, sym, ◌∙◌}
use Rattle.std.specs.Prelude.{IfOk}
use Rattle.std.proofs.lemmas.Option.{none-some}
use Rattle.ring_laws.specs.Ring.{Ring, Held, RingLaws}
use Rattle.symbol_table.specs.Symbols.{Symbols, IsOfRing}
use Rattle.symbol_table.specs.Draft.{DraftValue, given}
use Rattle.symbol_table.specs.Derived.{DerivedValue}
use Rattle.symbol_table.specs.Category.{draft_symbols}
use Rattle.symbol_table.specs.declared.law.Law.{Law}
use Rattle.symbol_table.specs.declared.law.Event.{Event}
use Rattle.law_events.specs.Sides.{first_of, first_in}
use Rattle.law_events.specs.Verdicts.{AllFit, AllHold}
use Rattle.law_events.proofs.Judged.{judges_right}
use Rattle.law_events.proofs.Lists.{all_hold, before_some, behind_none, first_append, none_where}
use Rattle.derive_symbols.specs.Told.{IsFault, Tells}
use Rattle.derive_symbols.specs.declared.WeightFault.{WeightFault}
use Rattle.derive_symbols.specs.declared.WeightFault.TheVariants as fault
use Rattle.weight_check.specs.Answers.{IsMemory, NamesNoLaw}

-- a fault is want of memory where no event is stated
memory_alone : (fault : WeightFault) (stated : Option Event) → IsFault fault stated → stated ≡ None → IsMemory fault
memory_alone (fault.Law event) stated is none = none-some event (sym none ∙ is)
memory_alone fault.Memory stated is none = tt

module _ {E : Type 0} (c : Symbols E) where
  pub fault_first : (xs ys : List Law) (fault : WeightFault) → IsFault fault (first_in c xs) → IsFault fault (first_in c (xs ++ ys))
  fault_first xs ys (fault.Law event) is = first_append c xs ys ∙ before_some (first_in c xs) (first_in c ys) event is
  fault_first xs ys fault.Memory is = tt

  pub fault_next : (xs ys : List Law) (fault : WeightFault) → first_in c xs ≡ None → IsFault fault (first_in c ys) → IsFault fault (first_in c (xs ++ ys))
  fault_next xs ys (fault.Law event) none is = first_append c xs ys ∙ behind_none (first_in c xs) (first_in c ys) (Some event) none is
  fault_next xs ys fault.Memory none is = tt

  pub none_both : (xs ys : List Law) → first_in c xs ≡ None → first_in c ys ≡ None → first_in c (xs ++ ys) ≡ None
  none_both xs ys none more = first_append c xs ys ∙ behind_none (first_in c xs) (first_in c ys) None none more

  -- the first event of one law alone
  pub event_alone : (law : Law) (event : Event) → first_of c law ≡ Some event → first_in c (law ∷ []) ≡ Some event
  event_alone law event is = before_some (first_of c law) None event is

  pub none_alone : (law : Law) → first_of c law ≡ None → first_in c (law ∷ []) ≡ None
  none_alone law none = behind_none (first_of c law) None None none refl

module _ {R E : Type 0} (ring : Ring E) (held : Held E) (ring_laws : RingLaws ring held) (draft : DraftValue R E) (are : IsOfRing (draft_symbols ring held draft)) (laws : List Law) where
  -- an answer without an event says that the laws hold
  pub tells_lawful : (result : Result (DerivedValue E) WeightFault) → Tells ring held draft laws result → IfOk result (λ _. AllHold (draft_symbols ring held draft) laws)
  tells_lawful (Ok derived) told = all_hold (draft_symbols ring held draft) (judges_right ring held ring_laws (given draft)) laws told.0
  tells_lawful (Err fault) told = tt

  -- laws that hold and fit aren't named
  pub tells_complete : (result : Result (DerivedValue E) WeightFault) → Tells ring held draft laws result → AllHold (draft_symbols ring held draft) laws → AllFit (draft_symbols ring held draft) laws → NamesNoLaw result
  tells_complete (Ok derived) told holds fits = tt
  tells_complete (Err fault) told holds fits =
      memory_alone fault _ told (none_where (draft_symbols ring held draft) (judges_right ring held ring_laws (given draft)) are laws holds fits)
