-- What decides about a category.
use Rattle.std.proofs.Common.{◌≡◌, ℕ, List, Option, Some, None, Ok, Err, ap, ◌∙◌}
use Rattle.std.specs.Prelude.{option_map}
use Rattle.std.specs.Option.{option_or}
use Rattle.fusion_rules.specs.declared.rules.RulesFault.{RulesFault}
use Rattle.symbol_table.specs.declared.law.Event.{Event}
use Rattle.anyon_app.specs.Refusals.{rules_line, event_line}
use Rattle.anyon_app.specs.Verdicts.{unless}

-- nothing is wrong, and nothing decides
pub nothing_decides : (names : List (List ℕ)) (rules : Option RulesFault) (event : Option Event) → rules ≡ None → event ≡ None
    → unless (option_or (option_map (rules_line names) rules) (option_map (event_line names) event)) ≡ Ok tt
nothing_decides names rules event no_fault no_event =
    ap (λ o. unless (option_or (option_map (rules_line names) o) (option_map (event_line names) event))) no_fault
    ∙ ap (λ o. unless (option_map (event_line names) o)) no_event

-- a fault of the rules decides
pub rules_decide : (names : List (List ℕ)) (rules : Option RulesFault) (event : Option Event) (fault : RulesFault) → rules ≡ Some fault
    → unless (option_or (option_map (rules_line names) rules) (option_map (event_line names) event)) ≡ Err (rules_line names fault)
rules_decide names rules event fault is =
    ap (λ o. unless (option_or (option_map (rules_line names) o) (option_map (event_line names) event))) is

-- an event of the laws decides where the rules pass
pub law_decides : (names : List (List ℕ)) (rules : Option RulesFault) (event : Option Event) (found : Event) → rules ≡ None → event ≡ Some found
    → unless (option_or (option_map (rules_line names) rules) (option_map (event_line names) event)) ≡ Err (event_line names found)
law_decides names rules event found no_fault is =
    ap (λ o. unless (option_or (option_map (rules_line names) o) (option_map (event_line names) event))) no_fault
    ∙ ap (λ o. unless (option_map (event_line names) o)) is
