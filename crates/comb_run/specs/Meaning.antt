-- What the states of the engine stand for.
use Rattle.std.specs.Prelude.{ℕ, List}
use Rattle.symbol_table.specs.AllLabels.{IsProper}
use Rattle.symbol_table.specs.Symbols.{Symbols}
use Rattle.comb_laws.specs.Laws.{FirstFactorIsOne}
use Rattle.comb_laws.specs.Paths.{Vector}
use Rattle.run_laws.specs.Combs.{IsCombVector}

-- A comb vector over n strands, of symbols that are those of a category. A state stands for its strands and its vector over
-- them.
pub record IsLawfulVector {E : Type 0} (c : Symbols E) (n : ℕ) (v : List ℕ × Vector E) : Type 0 where
  pub proper : IsProper c
  pub first : FirstFactorIsOne c
  pub over : IsCombVector c n v
