-- What decides about a category, if anything does.
use Rattle.std.specs.Prelude.{Option, Some, None, option_map, Result, Ok, Err}
use Rattle.std.specs.Option.{option_or}
use Rattle.cyclo_core.specs.Ratio.{Ratio, held, ring_at}
use Rattle.fusion_rules.specs.Check.{rules_fault}
use Rattle.symbol_table.specs.Symbols.{Symbols, symbols_of}
use Rattle.law_events.specs.Sides.{first_of_all}
use Rattle.category_text.specs.Named.{NamedSymbols}
use Rattle.anyon_app.specs.Replies.{Reply}
use Rattle.anyon_app.specs.Refusals.{rules_line, event_line}

-- the symbols of a category
abbrev pub symbols_in : NamedSymbols → Symbols Ratio
symbols_in named = symbols_of (ring_at named.root) held named.given

-- the first fault of its rules, else the first event of its laws
abbrev pub category_verdict : NamedSymbols → Option Reply
category_verdict named =
    option_or (option_map (rules_line named.names) (rules_fault named.given.count named.given.fuse))
    (option_map (event_line named.names) (first_of_all (symbols_in named)))

-- nothing decides, or this reply does
abbrev pub unless : Option Reply → Result (Unit {0}) Reply
unless None = Ok tt
unless (Some reply) = Err reply
