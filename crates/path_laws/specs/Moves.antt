-- In which orders operators may be made on the strands and the vector over them.
use Rattle.std.specs.Prelude.{◌≡◌, ℕ, ◌+◌, ◌<◌, false, IsTrue, List, length}
use Rattle.symbol_table.specs.Symbols.{Symbols}
use Rattle.tree_shapes.specs.Labelled.{Labelled, leaves}
use Rattle.comb_laws.specs.Amplitudes.{stands_for, start_vector}
use Rattle.comb_laws.specs.Operators.{acted, kernel_of, strands_after}
use Rattle.comb_laws.specs.Paths.{Path, Vector, is_path}
use Rattle.comb_laws.specs.Words.{comb_acts, on_word}
use Rattle.comb_laws.specs.declared.operator.Operator.{Operator}
use Rattle.comb_laws.specs.declared.operator.Operator.TheVariants.{Exchange}
use Rattle.program_text.specs.Letters.{gap_of}
use Rattle.program_text.specs.declared.letter.Letter.{Letter}
use Rattle.program_text.specs.declared.plan.Sign.{Sign}
use Rattle.program_text.specs.declared.plan.Sign.TheVariants.{Plus, Minus}

-- Far commutation: any two operators, exchanges or projections, at gaps with another one between them may be made in
-- either order, on every vector.
abbrev pub FarOperatorsCommute : {E : Type 0} → Symbols E → Type 0
FarOperatorsCommute {E} c =
    (strands : List ℕ) (v : Vector E) (i j : ℕ) (first second : Operator) → 0 < i → i + 1 < j → j < length strands
    → comb_acts c j second (comb_acts c i first (strands, v)) ≡ comb_acts c i first (comb_acts c j second (strands, v))

-- The same of two letters of a plan, on every word of outcomes: a letter is one of these operators there, or nothing.
abbrev pub FarLettersCommute : {E : Type 0} → Symbols E → Type 0
FarLettersCommute {E} c =
    (strands : List ℕ) (v : Vector E) (word : List ℕ) (first second : Letter) → 0 < gap_of first → gap_of first + 1 < gap_of second → gap_of second < length strands
    → on_word (comb_acts c) word second (on_word (comb_acts c) word first (strands, v))
    ≡ on_word (comb_acts c) word first (on_word (comb_acts c) word second (strands, v))

-- A vector over the strands: members of the ring, and zero at every list that is no path.
pub record IsOver {E : Type 0} (c : Symbols E) (strands : List ℕ) (v : Vector E) : Type 0 where
  pub members : (x : Path) → IsTrue (c.ring.member (v x))
  pub off : (x : Path) → is_path c strands x ≡ false → v x ≡ c.ring.zero

-- The start vector of a tree is a vector over the tree's strands.
abbrev pub StartsAreOver : {E : Type 0} → Symbols E → Type 0
StartsAreOver c = (tree : Labelled) → IsOver c (leaves tree) (start_vector c tree)

-- What entries with keys of labels stand for, on any trees, is a vector over the strands.
abbrev pub StatesAreOver : {E : Type 0} → Symbols E → Type 0
StatesAreOver {E} c =
    (strands : List ℕ) (labelled : List ℕ → Labelled) (entries : List (List ℕ × E)) → IsOver c strands (stands_for c strands labelled entries)

-- What an operator makes of any vector is one over the strands that it leaves.
abbrev pub OperatorsStayOver : {E : Type 0} → Symbols E → Type 0
OperatorsStayOver {E} c =
    (strands : List ℕ) (v : Vector E) (k : ℕ) (operator : Operator)
    → IsOver c (strands_after operator strands k) (acted c strands (strands_after operator strands k) k (kernel_of c operator) v)

-- the sign of a braid's inverse
abbrev pub opposite : Sign → Sign
opposite Plus = Minus
opposite Minus = Plus

-- The braid of a sign at a gap, on the strands and the vector over them.
abbrev pub braid_at : {E : Type 0} → Symbols E → Sign → ℕ → List ℕ × Vector E → List ℕ × Vector E
braid_at c sign k = comb_acts c k (Exchange sign)

-- Cancellation: a braid of either sign at any gap, and then its inverse there, change nothing.
abbrev pub BraidsCancel : {E : Type 0} → Symbols E → Type 0
BraidsCancel {E} c =
    (strands : List ℕ) (v : Vector E) (k : ℕ) (sign : Sign) → 0 < k → k < length strands → IsOver c strands v
    → braid_at c (opposite sign) k (braid_at c sign k (strands, v)) ≡ (strands, v)

-- Yang-Baxter: three braids of one sign at neighbouring gaps may begin at either of both, on every vector.
abbrev pub YangBaxter : {E : Type 0} → Symbols E → Type 0
YangBaxter {E} c =
    (strands : List ℕ) (v : Vector E) (k : ℕ) (sign : Sign) → 0 < k → k + 1 < length strands
    → braid_at c sign k (braid_at c sign (k + 1) (braid_at c sign k (strands, v)))
    ≡ braid_at c sign (k + 1) (braid_at c sign k (braid_at c sign (k + 1) (strands, v)))
