-- Comb vectors as what the states of an engine stand for: what holds of them alone, for every engine.
use Rattle.std.specs.Prelude.{◌≡◌, ℕ, ◌+◌, ◌<◌, Bool, true, false, IsTrue, List, length}
use Rattle.std.specs.List.{list_all}
use Rattle.symbol_table.specs.Symbols.{Symbols}
use Rattle.program_text.specs.Letters.{letters, measurements}
use Rattle.program_text.specs.declared.plan.Command.{Command}
use Rattle.program_text.specs.declared.plan.Sign.{Sign}
use Rattle.comb_laws.specs.Operators.{weight}
use Rattle.comb_laws.specs.Paths.{Path, Vector, is_path, paths}
use Rattle.comb_laws.specs.Plans.{rows_from}
use Rattle.comb_laws.specs.Words.{comb_acts}
use Rattle.comb_laws.specs.declared.operator.Operator.{Operator}
use Rattle.comb_laws.specs.declared.operator.Operator.TheVariants.{Exchange}
use Rattle.run_laws.specs.Rows.{rows_of_plan}
use Rattle.run_laws.specs.Schedules.{CommuteFar}

-- whether a vector is zero at every path over its strands
abbrev pub comb_nought : {E : Type 0} → Symbols E → List ℕ × Vector E → Bool
comb_nought c s = list_all (λ x. c.held.is_zero (s.1 x)) (paths c s.0)

abbrev pub comb_weight : {E : Type 0} → Symbols E → List ℕ × Vector E → E
comb_weight c s = weight c s.0 s.1

-- A comb vector over n strands: members of the ring, and zero at every list that is no path.
pub record IsCombVector {E : Type 0} (c : Symbols E) (n : ℕ) (s : List ℕ × Vector E) : Type 0 where
  pub strands : length s.0 ≡ n
  pub members : (x : Path) → IsTrue (c.ring.member (s.1 x))
  pub off : (x : Path) → is_path c s.0 x ≡ false → s.1 x ≡ c.ring.zero

-- Operators keep comb vectors, and make zero of zero; zero has the weight zero; and the rows of a plan are those of the
-- weights of its words' vectors.
pub record AreCombVectors {E : Type 0} (c : Symbols E) : Type 0 where
  pub keeps : (n k : ℕ) (o : Operator) (s : List ℕ × Vector E) → IsCombVector c n s → IsCombVector c n (comb_acts c k o s)
  pub nothing : (n k : ℕ) (o : Operator) (s : List ℕ × Vector E) → IsCombVector c n s → comb_nought c s ≡ true → comb_nought c (comb_acts c k o s) ≡ true
  pub weightless : (n : ℕ) (s : List ℕ × Vector E) → IsCombVector c n s → comb_nought c s ≡ true → c.held.is_zero (comb_weight c s) ≡ true
  pub rows : (strands : List ℕ) (v : Vector E) (commands : List Command)
      → rows_from c strands v commands ≡ rows_of_plan c.count (measurements commands) (comb_acts c) (comb_weight c) c.held.is_zero (letters 0 commands) (strands, v)

-- Where operators on lists of strands commute at gaps that are far apart, they do so on comb vectors over n strands.
abbrev pub CombsCommuteFar : {E : Type 0} → Symbols E → Type 0
CombsCommuteFar {E} c =
    ((strands : List ℕ) (v : Vector E) (i j : ℕ) (first second : Operator) → 0 < i → i + 1 < j → j < length strands
    → comb_acts c j second (comb_acts c i first (strands, v)) ≡ comb_acts c i first (comb_acts c j second (strands, v)))
    → (n : ℕ) → CommuteFar n (comb_acts c) (IsCombVector c n)

-- Where an exchange can be undone, it makes nothing zero.
abbrev pub ExchangesLeaveSome : {E : Type 0} → Symbols E → Type 0
ExchangesLeaveSome {E} c =
    (n k : ℕ) (sign back : Sign) (s : List ℕ × Vector E) → IsCombVector c n s
    → comb_acts c k (Exchange back) (comb_acts c k (Exchange sign) s) ≡ s
    → comb_nought c s ≡ false → comb_nought c (comb_acts c k (Exchange sign) s) ≡ false
