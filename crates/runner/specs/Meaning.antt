-- What the states of the engine stand for.
use Rattle.std.specs.Prelude.{◌≡◌, ℕ, List}
use Rattle.symbol_table.specs.AllLabels.{IsProper, HasUnit, IsWeighted, HasEquations}
use Rattle.symbol_table.specs.Symbols.{Symbols}
use Rattle.amp_store.specs.Amplitudes.{AreAmplitudes}
use Rattle.comb_laws.specs.Paths.{Vector}
use Rattle.run_laws.specs.Combs.{IsCombVector}
use Rattle.recouple.specs.States.{State, comb}
use Rattle.runner.specs.Trees.{IsTreeState}

-- What the symbols of a category obey at all labels.
pub record AreLawful {E : Type 0} (c : Symbols E) : Type 0 where
  pub proper : IsProper c
  pub unit : HasUnit c
  pub weighted : IsWeighted c
  pub equations : HasEquations c

-- A comb vector over n strands, of symbols that are those of a category.
pub record IsLawfulVector {E : Type 0} (c : Symbols E) (n : ℕ) (v : List ℕ × Vector E) : Type 0 where
  pub lawful : AreLawful c
  pub over : IsCombVector c n v

-- A state of the engine over n strands, with its keys in order and no number zero, stands for its strands and the comb
-- vector over them.
pub record StandsFor {E : Type 0} (c : Symbols E) (n : ℕ) (s : State E) (v : List ℕ × Vector E) : Type 0 where
  pub of : IsTreeState c n s
  pub amps : AreAmplitudes c.held s.amps
  pub is : v ≡ (s.strands, comb c s)
