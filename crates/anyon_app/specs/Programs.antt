-- What program and schedule texts are to a command that runs one, and the category before them.
use Rattle.std.specs.Prelude.{ℕ, List, map, Result, Ok, Err}
use Rattle.cyclo_core.specs.Ratio.{Ratio}
use Rattle.comb_laws.specs.Plans.{Outcomes, outcomes_of}
use Rattle.word_runs.specs.declared.fault.RunStop.{RunStop}
use Rattle.run_laws.specs.Turns.{text_order}
use Rattle.site_schedule.specs.declared.fault.ScheduleFault.{ScheduleFault}
use Rattle.site_schedule.specs.Legal.{letters_in}
use Rattle.site_schedule.specs.Reading.{schedule_of}
use Rattle.outcome_report.specs.Report.{report_of}
use Rattle.category_text.specs.Named.{NamedSymbols}
use Rattle.program_text.specs.Grammar.{program_in}
use Rattle.program_text.specs.Program.{Program}
use Rattle.program_text.specs.Steps.{Fault, ◌>>=◌}
use Rattle.program_text.specs.WellFormed.{commands_in}
use Rattle.runner.specs.Evaluated.{scheduled_weights}
use Rattle.anyon_app.specs.declared.texts.Kind as text
use Rattle.anyon_app.specs.declared.texts.Kind.TheVariants.{Category, Program as ProgramText, Schedule}
use Rattle.anyon_app.specs.Replies.{Reply}
use Rattle.anyon_app.specs.Refusals.{program_line, schedule_line, stop_line, too_long}
use Rattle.anyon_app.specs.Work.{Work, read_work, judged}
use Rattle.anyon_app.specs.Categories.{named_as}
use Rattle.anyon_app.specs.Verdicts.{category_verdict, symbols_in, unless}

-- the category of a text of a kind; what decides about it
abbrev pub admitted_as : text.Kind → List ℕ → (NamedSymbols → Work) → Work
admitted_as kind category next =
    read_work (too_long kind) (named_as kind) category (λ named. judged (unless (category_verdict named)) (λ _. next named))

-- the category of the text of this name, and what decides about it
abbrev pub admitted_work : List ℕ → (NamedSymbols → Work) → Work
admitted_work = admitted_as Category

-- a program, or the reply at the first fault of its text
abbrev pub program_or : text.Kind → Result Program Fault → Result Program Reply
program_or kind (Ok plan) = Ok plan
program_or kind (Err fault) = Err (program_line kind fault.line fault.cause)

-- the program that a text of this kind says, or the reply at its first fault
abbrev pub program_of_text : text.Kind → NamedSymbols → List ℕ → Result Program Reply
program_of_text kind named text = program_or kind (program_in named.names named.given.fuse text)

-- the program of a text of this kind, over a category
abbrev pub program_work : text.Kind → List ℕ → NamedSymbols → (Program → Work) → Work
program_work kind program named next = read_work (too_long kind) (program_of_text kind named) program next

-- the program of the text of this name, over a category
abbrev pub planned_work : List ℕ → NamedSymbols → (Program → Work) → Work
planned_work program named next = program_work ProgramText program named next

-- turns, or the reply at the first fault of their text
abbrev pub turns_or : Program → Result (List ℕ) ScheduleFault → Result (List ℕ) Reply
turns_or plan (Ok turns) = Ok turns
turns_or plan (Err fault) = Err (schedule_line (map (λ site. site.name) plan.sites) fault)

-- the turns that a text says, or the reply at its first fault
abbrev pub turns_of_text : Program → List ℕ → Result (List ℕ) Reply
turns_of_text plan text = turns_or plan (schedule_of plan text)

-- the turns of a text, for a program
abbrev pub scheduled_work : List ℕ → Program → (List ℕ → Work) → Work
scheduled_work schedule plan next = read_work (too_long Schedule) (turns_of_text plan) schedule next

-- all turns of the first site, then of the second, and so on
abbrev pub turns_of_program : Program → List ℕ
turns_of_program plan = text_order (letters_in plan)

-- these outcomes, unless the evaluation stops
abbrev pub outcomes_or : {A : Type 0} → Outcomes Ratio → Result A RunStop → Result (Outcomes Ratio) Reply
outcomes_or outcomes (Ok evaluated) = Ok outcomes
outcomes_or outcomes (Err stop) = Err (stop_line stop)

-- the total and the rows by the comb operators in the order of the text, or where the stated evaluation on trees, by these
-- turns, stops
abbrev pub outcomes_by : NamedSymbols → Program → List ℕ → Result (Outcomes Ratio) Reply
outcomes_by named plan turns =
    outcomes_or (outcomes_of (symbols_in named) plan.start (commands_in plan.sites)) (scheduled_weights (symbols_in named) plan turns)

-- the report of outcomes
abbrev pub report_or : List (List ℕ) → Result (Outcomes Ratio) Reply → Result (List ℕ) Reply
report_or names stated = stated >>= (λ outcomes. Ok (report_of names outcomes))
