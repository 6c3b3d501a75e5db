-- The state of a word of outcomes under letters: the strands, and a vector over them.
use Rattle.std.specs.Prelude.{ℕ, ◌==◌, if◌then◌else◌, slice_index, List, [], ◌∷◌, Option, Some, None}
use Rattle.symbol_table.specs.Symbols.{Symbols}
use Rattle.program_text.specs.Letters.{gap_of}
use Rattle.program_text.specs.declared.letter.Letter.{Letter}
use Rattle.program_text.specs.declared.letter.Letter.TheVariants.{Crossing, Charge, Tested, Still}
use Rattle.comb_laws.specs.Paths.{Vector}
use Rattle.comb_laws.specs.Operators.{kernel_of, strands_after, acted}
use Rattle.comb_laws.specs.declared.operator.Operator.{Operator}
use Rattle.comb_laws.specs.declared.operator.Operator.TheVariants.{Exchange, Project}

-- what each operator at each gap makes of a state
abbrev pub Acts : Type 0 → Type 0
Acts S = ℕ → Operator → S → S

-- the operator that a letter is on a word, if it is one: an exchange with a test is an exchange or nothing
abbrev pub operator_on : List ℕ → Letter → Option Operator
operator_on word (Crossing k sign) = Some (Exchange sign)
operator_on word (Charge k place) = Some (Project (slice_index word place))
operator_on word (Tested k sign place label) = if slice_index word place == label then Some (Exchange sign) else None
operator_on word (Still k) = None

-- what an operator at a gap makes of a state, if there is one
abbrev pub acted_by : {S : Type 0} → Acts S → ℕ → Option Operator → S → S
acted_by act k None s = s
acted_by act k (Some operator) s = act k operator s

-- what a letter makes of the state of a word
abbrev pub on_word : {S : Type 0} → Acts S → List ℕ → Letter → S → S
on_word act word letter s = acted_by act (gap_of letter) (operator_on word letter) s

-- the state of a word under letters, one after another
abbrev pub word_state : {S : Type 0} → Acts S → List ℕ → List Letter → S → S
word_state act word [] s = s
word_state act word (letter ∷ letters) s = word_state act word letters (on_word act word letter s)

-- on combs: the strands that the operator leaves, and its vector over them
abbrev pub comb_acts : {E : Type 0} → Symbols E → Acts (List ℕ × Vector E)
comb_acts c k operator s =
    let after = strands_after operator s.0 k in
    (after, acted c s.0 after k (kernel_of c operator) s.1)
