-- The report of live words on trees.
use Rattle.std.specs.Prelude.{ℕ, ◌+◌, List, [], ◌∷◌, ◌++◌, map, codes}
use Rattle.std.specs.Fmt.{decimal}
use Rattle.std.specs.List.{flat_map}
use Rattle.line_text.specs.Spelling.{spelled}
use Rattle.cyclo_core.specs.Ratio.{Ratio}
use Rattle.cyclo_text.specs.NumberWords.{spelled_number}
use Rattle.tree_shapes.specs.Outlines.{Outline, Tip, Branch, size}
use Rattle.word_runs.specs.Runs.{Live}
use Rattle.recouple.specs.States.{State}
use Rattle.outcome_report.specs.Labels.{label_names}

-- A tree whose first strand is strand i + 1: a strand is its number, and a node with the children L and R is `(L R)`.
abbrev pub shape_text : Outline → ℕ → List ℕ
shape_text Tip i = decimal (i + 1)
shape_text (Branch l r) i = 40 ∷ (shape_text l i ++ 32 ∷ (shape_text r (i + size l) ++ 41 ∷ []))

-- the words of the line of an amplitude: the labels of the nodes, from gap 1 on, and the number
abbrev pub amp_words : List (List ℕ) → List ℕ × Ratio → List (List ℕ)
amp_words names amp = codes "amp" ∷ label_names names amp.0 ++ spelled_number amp.1 ∷ []

-- the words of the line of a live word: its outcomes
abbrev pub word_words : List (List ℕ) → List ℕ → List (List ℕ)
word_words names word = codes "word" ∷ label_names names word

-- the lines of a live word: its outcomes, and then its amplitudes
abbrev pub live_lines : List (List ℕ) → Live (State Ratio) → List (List (List ℕ))
live_lines names live = word_words names live.word ∷ map (amp_words names) live.state.amps

-- the two lines of what all live words share: the labels of the strands, and the shape
abbrev pub head_lines : List (List ℕ) → State Ratio → List (List (List ℕ))
head_lines names first = (codes "strands" ∷ label_names names first.strands) ∷ (codes "shape" ∷ shape_text first.shape 0 ∷ []) ∷ []

-- what the live words share, and then the lines of each
abbrev pub tree_report_of : List (List ℕ) → State Ratio → List (Live (State Ratio)) → List ℕ
tree_report_of names first ends = spelled (head_lines names first ++ flat_map (live_lines names) ends)
