-- The checks in their order make the gate, and what the first fault says.
use Rattle.std.proofs.Common.{◌≡◌, ◌++◌, ℕ, List, Some, None, Option, Result, Ok, Err, refl, sym, ◌∙◌}
use Rattle.std.proofs.lemmas.Option.{none-some}
use Rattle.std.specs.Option.{option_or}
use Rattle.std.specs.Prelude.{IsOk, OnOk}
use Rattle.law_events.specs.Verdicts.{AllFit, AllHold}
use Rattle.ring_laws.specs.Ring.{Ring, Held, RingLaws}
use Rattle.fusion_rules.specs.Check.{rules_fault}
use Rattle.fusion_rules.specs.First.{Answers}
use Rattle.fusion_rules.proofs.PassLemmas.{no_fault_passes, passes_no_fault}
use Rattle.symbol_table.specs.Symbols.{Given, IsOfRing, Symbols, symbols_of}
use Rattle.symbol_table.specs.Laws.{laws_of, second_laws}
use Rattle.symbol_table.specs.declared.law.Law.{Law}
use Rattle.symbol_table.specs.declared.law.Event.{Event}
use Rattle.law_events.specs.Sides.{first_in, first_of_all}
use Rattle.law_events.proofs.Judged.{judges_right}
use Rattle.law_events.proofs.Lists.{all_hold, before_some, behind_none, first_append, none_where}
use Rattle.derive_symbols.specs.Told.{IsFault}
use Rattle.derive_symbols.specs.declared.WeightFault.{WeightFault}
use Rattle.derive_symbols.specs.declared.WeightFault.TheVariants as weights
use Rattle.weight_check.specs.Order.{weight_laws}
use Rattle.shape_check.specs.Answers.{IsFault as IsShapeFault}
use Rattle.shape_check.specs.Order.{shape_laws}
use Rattle.shape_check.specs.declared.ShapeFault.{ShapeFault}
use Rattle.shape_check.specs.declared.ShapeFault.TheVariants as shapes
use Rattle.category_gate.specs.Faults.{of_shapes, of_weights}
use Rattle.category_gate.specs.Gate.{IsComplete, IsFirst, IsMemory, IsSound}
use Rattle.category_gate.specs.declared.GateFault.{GateFault}
use Rattle.category_gate.specs.declared.GateFault.TheVariants as fault
use Rattle.category_gate.specs.Order.{behind_laws}

-- the two parts are the list
in_parts : (version : ℕ) → laws_of version ≡ weight_laws ++ behind_laws version
in_parts version = refl

module _ {E : Type 0} (c : Symbols E) where
  abbrev behind : List Law
  behind = behind_laws c.version

  all_is : first_of_all c ≡ option_or (first_in c weight_laws) (first_in c behind)
  all_is = first_append c weight_laws behind

  -- a fault of the weight laws, where the rules pass
  pub weights_told : (found : WeightFault) → rules_fault c.count c.fuse ≡ None → IsFault found (first_in c weight_laws) → IsFirst c (of_weights found)
  weights_told (weights.Law event) rules told = (rules, all_is ∙ before_some (first_in c weight_laws) (first_in c behind) event told)
  weights_told weights.Memory rules told = rules

  -- the laws behind them, where no weight law has an event
  pub behind_told : (o : Option Event) → first_in c weight_laws ≡ None → first_in c behind ≡ o → first_of_all c ≡ o
  behind_told o before told = all_is ∙ behind_none (first_in c weight_laws) (first_in c behind) o before told

  -- a fault of the laws behind them, where the rules pass and no weight law has an event
  pub behind_fault : (found : ShapeFault) → rules_fault c.count c.fuse ≡ None → first_in c weight_laws ≡ None → IsShapeFault found (first_in c behind) → IsFirst c (of_shapes found)
  behind_fault (shapes.Law event) rules before told = (rules, behind_told (Some event) before told)
  behind_fault shapes.Memory rules before told = rules

  -- an event of the pentagon or of a hexagon
  pub shape_fault : (found : ShapeFault) → IsShapeFault found (first_in c shape_laws) → IsShapeFault found (first_in c behind)
  shape_fault (shapes.Law event) told = first_append c shape_laws (second_laws c.version) ∙ before_some (first_in c shape_laws) (first_in c (second_laws c.version)) event told
  shape_fault shapes.Memory told = tt

  -- what the laws of marks tell, where those of shapes have no event
  pub second_told : (o : Option Event) → first_in c shape_laws ≡ None → first_in c (second_laws c.version) ≡ o → first_in c behind ≡ o
  second_told o none told = first_append c shape_laws (second_laws c.version) ∙ behind_none (first_in c shape_laws) (first_in c (second_laws c.version)) o none told

module _ {E : Type 0} (ring : Ring E) (held : Held E) (laws : RingLaws ring held) (g : Given E) where
  abbrev c : Symbols E
  c = symbols_of ring held g

  pub sound : IsSound c
  sound rules none = record { rules = no_fault_passes c.count c.fuse rules; laws = all_hold c (judges_right ring held laws g) (laws_of c.version) none }

  pub complete : IsOfRing c → IsComplete c
  complete are lawful fits = (passes_no_fault c.count c.fuse lawful.rules, none_where c (judges_right ring held laws g) are (laws_of c.version) lawful.laws fits)

-- where neither the rules have a fault nor the laws an event, a fault is want of memory
pub memory_alone : {E : Type 0} (c : Symbols E) (found : GateFault) → IsFirst c found → rules_fault c.count c.fuse ≡ None → first_of_all c ≡ None → IsMemory found
memory_alone c (fault.Rules found) is rules none = none-some found (sym rules ∙ is)
memory_alone c (fault.Law event) is rules none = none-some event (sym none ∙ is.1)
memory_alone c fault.Memory is rules none = tt

-- answers of a check of laws, and what they say of them
module _ {E : Type 0} (ring : Ring E) (held : Held E) (laws : RingLaws ring held) (g : Given E) (list : List Law) where
  abbrev symbols : Symbols E
  symbols = symbols_of ring held g

  pub answers_lawful : {A : Type 0} (r : Result A Event) → Answers r (first_in symbols list) → OnOk r (AllHold symbols list)
  answers_lawful (Ok x) told = all_hold symbols (judges_right ring held laws g) list told
  answers_lawful (Err event) told = tt

  pub answers_complete : {A : Type 0} (r : Result A Event) → Answers r (first_in symbols list) → IsOfRing symbols → AllHold symbols list → AllFit symbols list → IsOk r
  answers_complete (Ok x) told are holds fits = refl
  answers_complete (Err event) told are holds fits = absurd (none-some event (sym (none_where symbols (judges_right ring held laws g) are list holds fits) ∙ told))
