-- What the reports of runs tell of the texts that they were made from.
use Rattle.std.proofs.Common.{◌≡◌, ℕ, List, map, Bool, true, false, if◌then◌else◌, Some, None, Result, Ok, Err, refl, sym, ap, subst, ◌∙◌}
use Rattle.io_ports.specs.Ports.{Files}
use Rattle.cyclo_core.specs.Ratio.{Ratio}
use Rattle.category_text.specs.Named.{NamedSymbols}
use Rattle.category_text.specs.Reading.{category_of}
use Rattle.tree_shapes.specs.Labelled.{is_left_comb}
use Rattle.program_text.specs.Grammar.{program_in}
use Rattle.program_text.specs.Program.{Program}
use Rattle.program_text.specs.Steps.{Fault}
use Rattle.program_text.specs.WellFormed.{commands_in}
use Rattle.word_runs.specs.declared.fault.RunStop.{RunStop}
use Rattle.word_runs.specs.declared.fault.RunStop.TheVariants.{Overflow, Branches, Wide}
use Rattle.comb_laws.specs.Plans.{Outcomes, outcomes_of}
use Rattle.comb_run.specs.Evaluated.{evaluation_of}
use Rattle.runner.specs.Evaluated.{scheduled_weights}
use Rattle.site_schedule.specs.declared.fault.ScheduleFault.{ScheduleFault}
use Rattle.site_schedule.specs.declared.fault.ScheduleFault.TheVariants as schedule
use Rattle.site_schedule.specs.Reading.{schedule_of}
use Rattle.outcome_report.specs.Report.{report_of}
use Rattle.anyon_app.specs.declared.texts.Kind as text
use Rattle.anyon_app.specs.declared.texts.Kind.TheVariants.{Category, Program as ProgramText, Schedule}
use Rattle.anyon_app.specs.Replies.{Reply, done}
use Rattle.anyon_app.specs.Refusals.{comb_start_line, program_line, schedule_line, stop_line, too_long}
use Rattle.anyon_app.specs.Work.{Work, Says, reply_of, judged}
use Rattle.anyon_app.specs.Categories.{named_of}
use Rattle.anyon_app.specs.Verdicts.{category_verdict, symbols_in, unless}
use Rattle.anyon_app.specs.Programs.{admitted_work, outcomes_or, planned_work, program_of_text, program_or, program_work, report_or, scheduled_work, turns_of_program, turns_of_text, turns_or}
use Rattle.anyon_app.specs.Comb.{comb_work, rows_of, start_line}
use Rattle.anyon_app.specs.Run.{run_work, run_by_work, rows_work}
use Rattle.anyon_app.specs.Trees.{trees_work, trees_by_work, states_work}
use Rattle.anyon_app.specs.Laws.{IsCategoryText, IsProgramText, HasLawfulText, HasRows, FinishedIsLawful, ReportAlike, ReportsRows}
use Rattle.anyon_app.proofs.LawLemmas.{category_is, has_lawful, limited_apart, no_category, refused_apart, some_same, too_long_apart, undecided, was_read}

-- What was admitted on the way to a report.
pub record WasAdmitted (next : NamedSymbols → Work) (files : Files) (name report : List ℕ) : Type 0 where
  pub named : NamedSymbols
  pub is : IsCategoryText files name named
  pub lawful : HasLawfulText files name
  pub went : reply_of (next named) files ≡ Some (done report)

pub was_admitted : (next : NamedSymbols → Work) (files : Files) (name report : List ℕ) → reply_of (admitted_work name next) files ≡ Some (done report) → WasAdmitted next files name report
was_admitted next files name report went =
    let read = was_read (too_long Category) named_of (λ named. judged (unless (category_verdict named)) (λ _. next named)) files name report
    too_long_apart (λ text reply is e. no_category text reply report is e) went in
    let nothing = undecided read.value (λ _. next read.value) files report (category_verdict read.value) refl read.went in
    record {
      named = read.value;
      is = record { text = read.text; there = read.there; short = read.short; reads = category_is (category_of read.text) read.value read.reads };
      lawful = has_lawful files name read.text read.value read.there read.short read.reads nothing.0;
      went = nothing.1;
    }

-- what a program text is read as
pub program_is : (kind : text.Kind) (r : Result Program Fault) (plan : Program) → program_or kind r ≡ Ok plan → r ≡ Ok plan
program_is kind (Ok other) plan e = let same : other ≡ plan = cc in ap Ok same
program_is kind (Err fault) plan e = absurd cc

pub no_program : (kind : text.Kind) (r : Result Program Fault) (reply : Reply) (report : List ℕ) → program_or kind r ≡ Err reply → reply ≡ done report → ⊥
no_program kind (Ok plan) reply report is e = absurd cc
no_program kind (Err fault) reply report is e =
    let same : program_line kind fault.line fault.cause ≡ reply = cc in
    refused_apart (program_line kind fault.line fault.cause).bytes report (same ∙ e)

-- What was read of the program.
pub record WasPlanned (named : NamedSymbols) (next : Program → Work) (files : Files) (name report : List ℕ) : Type 0 where
  pub plan : Program
  pub is : IsProgramText files name named plan
  pub went : reply_of (next plan) files ≡ Some (done report)

pub was_program : (kind : text.Kind) (named : NamedSymbols) (next : Program → Work) (files : Files) (name report : List ℕ) → reply_of (program_work kind name named next) files ≡ Some (done report)
    → WasPlanned named next files name report
was_program kind named next files name report went =
    let read = was_read (too_long kind) (program_of_text kind named) next files name report
    (λ other e. refused_apart _ other e) (λ text reply is e. no_program kind (program_in named.names named.given.fuse text) reply report is e) went in
    record {
      plan = read.value;
      is = record { text = read.text; there = read.there; short = read.short; reads = program_is kind (program_in named.names named.given.fuse read.text) read.value read.reads };
      went = read.went;
    }

was_planned : (named : NamedSymbols) (next : Program → Work) (files : Files) (name report : List ℕ) → reply_of (planned_work name named next) files ≡ Some (done report) → WasPlanned named next files name report
was_planned named next files name report went = was_program ProgramText named next files name report went

-- a stop is no report
pub stop_apart : (stop : RunStop) (report : List ℕ) → stop_line stop ≡ done report → ⊥
stop_apart (Overflow turn) report e = limited_apart _ report e
stop_apart (Branches turn count) report e = limited_apart _ report e
stop_apart (Wide turn entries) report e = limited_apart _ report e

-- where the evaluation ends, the report is that of the outcomes
reported : {A : Type 0} (names : List (List ℕ)) (outcomes : Outcomes Ratio) (stated : Result A RunStop) (files : Files) (report : List ℕ)
    → reply_of (judged (report_or names (outcomes_or outcomes stated)) (λ r. Says (done r))) files ≡ Some (done report) → report ≡ report_of names outcomes
reported names outcomes (Ok evaluated) files report went = ap (λ (r : Reply). r.bytes) (sym (some_same _ (done report) went))
reported names outcomes (Err stop) files report went = absurd (stop_apart stop report (some_same _ (done report) went))

-- a left-combed start goes on
started : (b : Bool) (next : Unit {0} → Work) (files : Files) (report : List ℕ)
    → reply_of (judged (unless (if b then None else Some comb_start_line)) next) files ≡ Some (done report) → reply_of (next tt) files ≡ Some (done report)
started true next files report went = went
started false next files report went = absurd (refused_apart _ report (some_same _ (done report) went))

-- a fault of a schedule is no report
schedule_apart : (sites : List (List ℕ)) (fault : ScheduleFault) (report : List ℕ) → schedule_line sites fault ≡ done report → ⊥
schedule_apart sites (schedule.Line why) report e = refused_apart _ report e
schedule_apart sites (schedule.Header line) report e = refused_apart _ report e
schedule_apart sites (schedule.UnknownSite turn) report e = refused_apart _ report e
schedule_apart sites (schedule.TooMany turn) report e = refused_apart _ report e
schedule_apart sites (schedule.Early turn) report e = refused_apart _ report e
schedule_apart sites (schedule.Unfinished site) report e = refused_apart _ report e
schedule_apart sites schedule.Memory report e = refused_apart _ report e

pub no_schedule : (plan : Program) (r : Result (List ℕ) ScheduleFault) (reply : Reply) (report : List ℕ) → turns_or plan r ≡ Err reply → reply ≡ done report → ⊥
no_schedule plan (Ok turns) reply report is e = absurd cc
no_schedule plan (Err fault) reply report is e =
    let same : schedule_line (map (λ site. site.name) plan.sites) fault ≡ reply = cc in
    schedule_apart (map (λ site. site.name) plan.sites) fault report (same ∙ e)

-- What was read of the schedule.
record WasScheduled (next : List ℕ → Work) (files : Files) (report : List ℕ) : Type 0 where
  turns : List ℕ
  went : reply_of (next turns) files ≡ Some (done report)

was_scheduled : (plan : Program) (next : List ℕ → Work) (files : Files) (name report : List ℕ) → reply_of (scheduled_work name plan next) files ≡ Some (done report) → WasScheduled next files report
was_scheduled plan next files name report went =
    let read = was_read (too_long Schedule) (turns_of_text plan) next files name report
    (λ other e. refused_apart _ other e) (λ text reply is e. no_schedule plan (schedule_of plan text) reply report is e) went in
    record { turns = read.value; went = read.went }

-- rows by any turns
rows_reported : (named : NamedSymbols) (plan : Program) (turns : List ℕ) (files : Files) (report : List ℕ) → reply_of (rows_work named plan turns) files ≡ Some (done report)
    → report ≡ report_of named.names (outcomes_of (symbols_in named) plan.start (commands_in plan.sites))
rows_reported named plan turns files report went =
    reported named.names (outcomes_of (symbols_in named) plan.start (commands_in plan.sites)) (scheduled_weights (symbols_in named) plan turns) files report went

pub run_reports : ReportsRows run_work
unfolding run_work
run_reports files category program report went =
    let first = was_admitted (λ named. planned_work program named (λ plan. rows_work named plan (turns_of_program plan))) files category report went in
    let second = was_planned first.named (λ plan. rows_work first.named plan (turns_of_program plan)) files program report first.went in
    record {
      named = first.named;
      plan = second.plan;
      category_is = first.is;
      program_is = second.is;
      report_is = rows_reported first.named second.plan (turns_of_program second.plan) files report second.went;
    }

pub run_by_reports : (schedule : List ℕ) → ReportsRows (λ category program. run_by_work category program schedule)
unfolding run_by_work
run_by_reports schedule files category program report went =
    let first = was_admitted (λ named. planned_work program named (λ plan. scheduled_work schedule plan (rows_work named plan))) files category report went in
    let second = was_planned first.named (λ plan. scheduled_work schedule plan (rows_work first.named plan)) files program report first.went in
    let third = was_scheduled second.plan (rows_work first.named second.plan) files schedule report second.went in
    record {
      named = first.named;
      plan = second.plan;
      category_is = first.is;
      program_is = second.is;
      report_is = rows_reported first.named second.plan third.turns files report third.went;
    }

pub comb_reports : ReportsRows comb_work
unfolding comb_work
comb_reports files category program report went =
    let first = was_admitted (λ named. planned_work program named (λ plan. judged (unless (start_line plan)) (λ _. judged (rows_of named plan) (λ r. Says (done r))))) files category report went in
    let second = was_planned first.named (λ plan. judged (unless (start_line plan)) (λ _. judged (rows_of first.named plan) (λ r. Says (done r)))) files program report first.went in
    let third = started (is_left_comb second.plan.start) (λ _. judged (rows_of first.named second.plan) (λ r. Says (done r))) files report second.went in
    record {
      named = first.named;
      plan = second.plan;
      category_is = first.is;
      program_is = second.is;
      report_is = reported first.named.names (outcomes_of (symbols_in first.named) second.plan.start (commands_in second.plan.sites))
          (evaluation_of (symbols_in first.named) second.plan.start (commands_in second.plan.sites)) files report third;
    }

-- one text is read as one category, and as one program over it
pub same_category : (files : Files) (name : List ℕ) (x y : NamedSymbols) → IsCategoryText files name x → IsCategoryText files name y → x ≡ y
same_category files name x y first second =
    let text : first.text ≡ second.text = let a = first.there in let b = second.there in cc in
    let both = sym first.reads ∙ (ap category_of text ∙ second.reads) in
    cc

same_program : (files : Files) (name : List ℕ) (named : NamedSymbols) (p q : Program) → IsProgramText files name named p → IsProgramText files name named q → p ≡ q
same_program files name named p q first second =
    let text : first.text ≡ second.text = let a = first.there in let b = second.there in cc in
    let both = sym first.reads ∙ (ap (program_in named.names named.given.fuse) text ∙ second.reads) in
    cc

-- the rows of both are one report
same_rows : (files : Files) (category program one other : List ℕ) → HasRows files category program one → HasRows files category program other → one ≡ other
same_rows files category program one other first second =
    let named = same_category files category first.named second.named first.category_is second.category_is in
    let moved = subst (λ n. IsProgramText files program n first.plan) named first.program_is in
    let plan = same_program files program second.named first.plan second.plan moved second.program_is in
    first.report_is
    ∙ ((λ j. report_of (named j).names (outcomes_of (symbols_in (named j)) (plan j).start (commands_in (plan j).sites))) ∙ sym second.report_is)

pub alike : (first second : List ℕ → List ℕ → Work) → ReportsRows first → ReportsRows second → ReportAlike first second
alike first second rows others files category program one other went gone =
    same_rows files category program one other (rows files category program one went) (others files category program other gone)

pub comb_lawful : FinishedIsLawful comb_work
unfolding comb_work
comb_lawful files category program report went =
    (was_admitted (λ named. planned_work program named (λ plan. judged (unless (start_line plan)) (λ _. judged (rows_of named plan) (λ r. Says (done r))))) files category report went).lawful

pub run_lawful : FinishedIsLawful run_work
unfolding run_work
run_lawful files category program report went =
    (was_admitted (λ named. planned_work program named (λ plan. rows_work named plan (turns_of_program plan))) files category report went).lawful

pub run_by_lawful : (schedule : List ℕ) → FinishedIsLawful (λ category program. run_by_work category program schedule)
unfolding run_by_work
run_by_lawful schedule files category program report went =
    (was_admitted (λ named. planned_work program named (λ plan. scheduled_work schedule plan (rows_work named plan))) files category report went).lawful

pub trees_lawful : FinishedIsLawful trees_work
unfolding trees_work
trees_lawful files category program report went =
    (was_admitted (λ named. planned_work program named (λ plan. states_work named plan (turns_of_program plan))) files category report went).lawful

pub trees_by_lawful : (schedule : List ℕ) → FinishedIsLawful (λ category program. trees_by_work category program schedule)
unfolding trees_by_work
trees_by_lawful schedule files category program report went =
    (was_admitted (λ named. planned_work program named (λ plan. scheduled_work schedule plan (states_work named plan))) files category report went).lawful
