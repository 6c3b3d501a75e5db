-- The commands `run CAT PROG` and `run CAT PROG SCHED`: what they read, in which order they refuse, and their report.
use Rattle.std.specs.Prelude.{ℕ, List, Result}
use Rattle.category_text.specs.Named.{NamedSymbols}
use Rattle.program_text.specs.Program.{Program}
use Rattle.anyon_app.specs.Replies.{Reply, done}
use Rattle.anyon_app.specs.Work.{Work, Says, judged}
use Rattle.anyon_app.specs.Programs.{admitted_work, outcomes_by, planned_work, report_or, scheduled_work, turns_of_program}

-- the report of these outcomes
abbrev pub rows_of : NamedSymbols → Program → List ℕ → Result (List ℕ) Reply
rows_of named plan turns = report_or named.names (outcomes_by named plan turns)

-- the rows of a program by these turns, as a report
abbrev pub rows_work : NamedSymbols → Program → List ℕ → Work
rows_work named plan turns = judged (rows_of named plan turns) (λ report. Says (done report))

-- The category of the first text; what decides about it; the program, and its rows by turns in the order of the text.
unfoldable pub run_work : List ℕ → List ℕ → Work
run_work category program =
    admitted_work category (λ named. planned_work program named (λ plan. rows_work named plan (turns_of_program plan)))

-- The same by the turns of a third text.
unfoldable pub run_by_work : List ℕ → List ℕ → List ℕ → Work
run_by_work category program schedule =
    admitted_work category (λ named. planned_work program named (λ plan. scheduled_work schedule plan (rows_work named plan)))
