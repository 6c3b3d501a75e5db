-- The laws of shapes in the order of the check.
use Rattle.std.specs.Prelude.{List, ◌∷◌}
use Rattle.symbol_table.specs.declared.law.Law.{Law}
use Rattle.symbol_table.specs.declared.law.Law.TheVariants.{Pentagon}
use Rattle.hexagon_check.specs.Exchange.{hexagon_laws}

-- the pentagon, and behind it the two hexagons
abbrev pub shape_laws : List Law
shape_laws = Pentagon ∷ hexagon_laws
