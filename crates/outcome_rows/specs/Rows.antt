-- What a run answers: rows as pairs of a word and its weight.
use Rattle.std.specs.Prelude.{ℕ, List, map}
use Rattle.comb_laws.specs.Plans.{Outcomes}
use Rattle.outcome_rows.specs.declared.rows.Row.{Row}
use Rattle.outcome_rows.specs.declared.rows.Rows.{Rows}

-- each word with its weight
abbrev pub rows_of : {R E : Type 0} → List (Row R E) → List (List ℕ × E)
rows_of rows = map (λ row. (row.word.items, row.weight)) rows

-- the total and the rows
abbrev pub outcomes_in : {R E : Type 0} → Rows R E → Outcomes E
outcomes_in rows = record { total = rows.total; rows = rows_of rows.list.items }
