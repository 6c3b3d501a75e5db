-- The laws behind those of single symbols and weights, in the order of the check.
use Rattle.std.specs.Prelude.{ℕ, List, ◌++◌}
use Rattle.symbol_table.specs.Laws.{second_laws}
use Rattle.symbol_table.specs.declared.law.Law.{Law}
use Rattle.shape_check.specs.Order.{shape_laws}

-- the pentagon and the hexagons, and in version 2 those of twists and loop values
abbrev pub behind_laws : ℕ → List Law
behind_laws version = shape_laws ++ second_laws version
