-- The report of the rows of a program.
use Rattle.std.specs.Prelude.{ℕ, List, [], ◌∷◌, ◌++◌, map, codes}
use Rattle.line_text.specs.Spelling.{spelled}
use Rattle.cyclo_core.specs.Ratio.{Ratio}
use Rattle.cyclo_text.specs.NumberWords.{spelled_number}
use Rattle.comb_laws.specs.Plans.{Outcomes}
use Rattle.outcome_report.specs.Labels.{label_names}

-- the words of the first line: the total
abbrev pub total_words : Ratio → List (List ℕ)
total_words total = codes "total" ∷ spelled_number total ∷ []

-- the words of a row's line: its outcomes, and its weight
abbrev pub row_words : List (List ℕ) → List ℕ × Ratio → List (List ℕ)
row_words names row = codes "outcome" ∷ label_names names row.0 ++ (codes "weight" ∷ spelled_number row.1 ∷ [])

-- the total, and then a line for each row
abbrev pub report_of : List (List ℕ) → Outcomes Ratio → List ℕ
report_of names outcomes = spelled (total_words outcomes.total ∷ map (row_words names) outcomes.rows)
