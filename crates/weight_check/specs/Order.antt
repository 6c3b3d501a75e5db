-- The laws of single symbols and weights, in the order of the check.
use Rattle.std.specs.Prelude.{List, [], ◌∷◌, ◌++◌}
use Rattle.symbol_table.specs.declared.law.Law.{Law}
use Rattle.symbol_table.specs.declared.law.Law.TheVariants.{UnitF, UnitR, UnitW, RealW, InverseW, NormR, DeriveH, DeriveS, InverseF, InverseH, Rigid}

-- those that read F, R, w and v alone
abbrev pub symbol_laws : List Law
symbol_laws = UnitF ∷ UnitR ∷ UnitW ∷ RealW ∷ InverseW ∷ NormR ∷ []

-- H and S have values
abbrev pub derive_laws : List Law
derive_laws = DeriveH ∷ DeriveS ∷ []

-- H is the inverse of F on both sides
abbrev pub inverse_laws : List Law
inverse_laws = InverseF ∷ InverseH ∷ []

abbrev pub weight_laws : List Law
weight_laws = symbol_laws ++ derive_laws ++ inverse_laws ++ Rigid ∷ []
