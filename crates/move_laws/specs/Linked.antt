-- What moves of letters leave as it is.
use Rattle.std.specs.Prelude.{◌≡◌, ℕ, ◌<◌, List, Some}
use Rattle.std.specs.List.{AllByRecursion}
use Rattle.symbol_table.specs.Symbols.{Symbols}
use Rattle.tree_shapes.specs.Labelled.{size}
use Rattle.program_text.specs.Letters.{gap_of}
use Rattle.program_text.specs.Program.{Program}
use Rattle.program_text.specs.WellFormed.{IsProgram, commands_in}
use Rattle.program_text.specs.declared.letter.Letter.{Letter}
use Rattle.comb_laws.specs.Paths.{Vector}
use Rattle.comb_laws.specs.Plans.{outcomes_of}
use Rattle.comb_laws.specs.Words.{comb_acts, word_state}
use Rattle.word_moves.specs.Moves.{moved, moving_letters}
use Rattle.word_moves.specs.Verdicts.{AreLinked}
use Rattle.word_moves.specs.declared.moves.BraidMove.{BraidMove}
use Rattle.run_laws.specs.Combs.{IsCombVector}

-- A letter whose gap lies between two of n strands.
pub record IsAtGap (n : ℕ) (l : Letter) : Type 0 where
  pub above : 0 < gap_of l
  pub below : gap_of l < n

-- all letters at gaps of n strands
abbrev pub AreAtGaps : ℕ → List Letter → Type 0
AreAtGaps n ls = AllByRecursion (IsAtGap n) ls

-- A move leaves letters at gaps.
abbrev pub MovesKeepGaps : Type 0
MovesKeepGaps = (n : ℕ) (move : BraidMove) (ls ls' : List Letter) → moved n move ls ≡ Some ls' → AreAtGaps n ls → AreAtGaps n ls'

-- A move leaves the state of every word, from every vector over the strands.
abbrev pub StepKeepsWords : {E : Type 0} → Symbols E → Type 0
StepKeepsWords {E} c =
    (n : ℕ) (move : BraidMove) (ls ls' : List Letter) (word strands : List ℕ) (v : Vector E)
    → moved n move ls ≡ Some ls' → AreAtGaps n ls → IsCombVector c n (strands, v)
    → word_state (comb_acts c) word ls (strands, v) ≡ word_state (comb_acts c) word ls' (strands, v)

-- So do moves one after another: linked lists have equal states.
abbrev pub LinkedKeepWords : {E : Type 0} → Symbols E → Type 0
LinkedKeepWords {E} c =
    (n : ℕ) (ls ls' : List Letter) (word strands : List ℕ) (v : Vector E)
    → AreLinked n ls ls' → AreAtGaps n ls → IsCombVector c n (strands, v)
    → word_state (comb_acts c) word ls (strands, v) ≡ word_state (comb_acts c) word ls' (strands, v)

-- Two well formed programs from one start whose letters are linked have the same total and the same rows.
abbrev pub LinkedHaveEqualRows : {E : Type 0} → Symbols E → Type 0
LinkedHaveEqualRows c =
    (p q : Program) → IsProgram c.fuse c.count p → IsProgram c.fuse c.count q → p.start ≡ q.start
    → AreLinked (size p.start) (moving_letters p) (moving_letters q)
    → outcomes_of c p.start (commands_in p.sites) ≡ outcomes_of c q.start (commands_in q.sites)
