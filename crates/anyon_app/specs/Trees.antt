-- The commands `trees CAT PROG` and `trees CAT PROG SCHED`: what they read, in which order they refuse, and their report.
use Rattle.std.specs.Prelude.{ℕ, List, [], ◌∷◌, Result, Ok, Err}
use Rattle.cyclo_core.specs.Ratio.{Ratio}
use Rattle.category_text.specs.Named.{NamedSymbols}
use Rattle.program_text.specs.Program.{Program}
use Rattle.word_runs.specs.Runs.{Live}
use Rattle.word_runs.specs.declared.fault.RunStop.{RunStop}
use Rattle.recouple.specs.States.{State}
use Rattle.runner.specs.Evaluated.{scheduled_ends}
use Rattle.outcome_report.specs.TreeReport.{tree_report_of}
use Rattle.anyon_app.specs.Replies.{Reply, done}
use Rattle.anyon_app.specs.Refusals.{stop_line}
use Rattle.anyon_app.specs.Work.{Work, Says, judged}
use Rattle.anyon_app.specs.Programs.{admitted_work, planned_work, scheduled_work, turns_of_program}
use Rattle.anyon_app.specs.Verdicts.{symbols_in}

-- The report of live words. All have the strands and the shape of the first; a run ends with one at least.
abbrev pub ends_report : List (List ℕ) → List (Live (State Ratio)) → List ℕ
ends_report names [] = []
ends_report names (first ∷ ends) = tree_report_of names first.state (first ∷ ends)

-- the report of the live words at the end, unless the evaluation stops
abbrev pub ends_or : List (List ℕ) → Result (List (Live (State Ratio))) RunStop → Result (List ℕ) Reply
ends_or names (Ok ends) = Ok (ends_report names ends)
ends_or names (Err stop) = Err (stop_line stop)

-- the report of the live words and their states, in the order of lists of labels, by the stated evaluation on trees, by
-- these turns, or where it stops
abbrev pub states_of : NamedSymbols → Program → List ℕ → Result (List ℕ) Reply
states_of named plan turns = ends_or named.names (scheduled_ends (symbols_in named) plan turns)

-- the final states of a program by these turns, as a report
abbrev pub states_work : NamedSymbols → Program → List ℕ → Work
states_work named plan turns = judged (states_of named plan turns) (λ report. Says (done report))

-- The category of the first text; what decides about it; the program, and its live words by turns in the order of the text.
unfoldable pub trees_work : List ℕ → List ℕ → Work
trees_work category program =
    admitted_work category (λ named. planned_work program named (λ plan. states_work named plan (turns_of_program plan)))

-- The same by the turns of a third text.
unfoldable pub trees_by_work : List ℕ → List ℕ → List ℕ → Work
trees_by_work category program schedule =
    admitted_work category (λ named. planned_work program named (λ plan. scheduled_work schedule plan (states_work named plan)))
