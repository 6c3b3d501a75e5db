-- The command `comb CAT PROG`: what it reads, in which order it refuses, and its report.
use Rattle.std.specs.Prelude.{ℕ, List, if◌then◌else◌, Option, Some, None, Result}
use Rattle.category_text.specs.Named.{NamedSymbols}
use Rattle.tree_shapes.specs.Labelled.{is_left_comb}
use Rattle.program_text.specs.Program.{Program}
use Rattle.program_text.specs.WellFormed.{commands_in}
use Rattle.comb_laws.specs.Plans.{outcomes_of}
use Rattle.comb_run.specs.Evaluated.{evaluation_of}
use Rattle.anyon_app.specs.Replies.{Reply, done}
use Rattle.anyon_app.specs.Refusals.{comb_start_line}
use Rattle.anyon_app.specs.Work.{Work, Says, judged}
use Rattle.anyon_app.specs.Programs.{admitted_work, outcomes_or, planned_work, report_or}
use Rattle.anyon_app.specs.Verdicts.{symbols_in, unless}

-- the start isn't left-combed
abbrev pub start_line : Program → Option Reply
start_line plan = if is_left_comb plan.start then None else Some comb_start_line

-- the report of the total and the rows by the comb operators, or where the stated evaluation on left-combed paths stops
abbrev pub rows_of : NamedSymbols → Program → Result (List ℕ) Reply
rows_of named plan =
    report_or named.names (outcomes_or (outcomes_of (symbols_in named) plan.start (commands_in plan.sites))
    (evaluation_of (symbols_in named) plan.start (commands_in plan.sites)))

-- The category of the first text; what decides about it; the program, whose start is left-combed, and its rows.
unfoldable pub comb_work : List ℕ → List ℕ → Work
comb_work category program =
    admitted_work category (λ named. planned_work program named (λ plan.
    judged (unless (start_line plan)) (λ _. judged (rows_of named plan) (λ report. Says (done report)))))
