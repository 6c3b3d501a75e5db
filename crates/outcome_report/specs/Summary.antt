-- The summary of a run that was made from a number.
use Rattle.std.specs.Prelude.{ℕ, List, [], ◌∷◌, ◌++◌, length, codes, decimal}
use Rattle.line_text.specs.Spelling.{spelled}
use Rattle.cyclo_core.specs.Ratio.{Ratio}
use Rattle.cyclo_text.specs.NumberWords.{spelled_number}
use Rattle.comb_laws.specs.Plans.{Outcomes}
use Rattle.outcome_report.specs.Report.{total_words}

-- a word and a count
abbrev pub count_words : List ℕ → ℕ → List (List ℕ)
count_words word count = word ∷ decimal count ∷ []

-- the weight of the first row, 0 where there is none
abbrev pub weight_words : List (List ℕ × Ratio) → List (List ℕ)
weight_words [] = count_words (codes "weight") 0
weight_words (row ∷ rows) = codes "weight" ∷ spelled_number row.1 ∷ []

-- how many commands and measurements the program of a number has
abbrev pub count_lines : ℕ → ℕ → ℕ → List (List (List ℕ))
count_lines number commands measurements =
    count_words (codes "made") number ∷ count_words (codes "commands") commands ∷ count_words (codes "measurements") measurements ∷ []

-- the total, how many rows there are, and the weight of the first
abbrev pub outcome_lines : Outcomes Ratio → List (List (List ℕ))
outcome_lines outcomes =
    total_words outcomes.total ∷ count_words (codes "outcomes") (length outcomes.rows) ∷ weight_words outcomes.rows ∷ []

-- all six lines
abbrev pub summary_of : ℕ → ℕ → ℕ → Outcomes Ratio → List ℕ
summary_of number commands measurements outcomes = spelled (count_lines number commands measurements ++ outcome_lines outcomes)
