-- What the summary of made texts tells.
use Rattle.std.proofs.Common.{◌≡◌, ℕ, ◌≤◌, List, length, Bool, true, false, ◌&&◌, nat_lt, if◌then◌else◌, Option, Some, None, Result, Ok, Err, refl, sym, ap, subst, ◌∙◌, arith}
use Rattle.std.specs.Prelude.{IsOkAnd}
use Rattle.std.proofs.lemmas.Bool.Decides.{nat_tests}
use Rattle.io_ports.specs.Ports.{Files}
use Rattle.line_text.specs.Plain.{plain_number_of}
use Rattle.cyclo_core.specs.Ratio.{Ratio, held, ring_at}
use Rattle.cyclo_core.specs.RingAt.{ring_at_laws}
use Rattle.fusion_rules.specs.Check.{rules_fault}
use Rattle.law_events.specs.Sides.{first_of_all}
use Rattle.symbol_table.specs.Laws.{IsLawful}
use Rattle.category_gate.proofs.GateLemmas.{sound}
use Rattle.category_text.specs.Again.{ReadAgain, SameSymbols}
use Rattle.category_text.specs.Canonical.{canonical}
use Rattle.category_text.specs.Named.{NamedSymbols}
use Rattle.category_text.specs.Reading.{category_of}
use Rattle.program_text.specs.Grammar.{program_in}
use Rattle.program_text.specs.Letters.{measurements}
use Rattle.program_text.specs.Program.{Program}
use Rattle.program_text.specs.Steps.{◌>>=◌}
use Rattle.program_text.specs.WellFormed.{commands_in}
use Rattle.program_text.specs.Written.{written}
use Rattle.word_runs.specs.declared.fault.RunStop.{RunStop}
use Rattle.comb_laws.specs.Plans.{Outcomes, outcomes_of}
use Rattle.runner.specs.Evaluated.{scheduled_weights}
use Rattle.category_maker.specs.Laws.{CategoriesRead, ProgramsRead}
use Rattle.category_maker.specs.MadeCategory.{group_fuses, label_names, made_category}
use Rattle.category_maker.specs.MadeProgram.{made_program}
use Rattle.category_maker.specs.MadeSchedule.{made_schedule}
use Rattle.outcome_report.specs.Summary.{summary_of}
use Rattle.site_schedule.specs.Reading.{schedule_of}
use Rattle.anyon_app.specs.declared.texts.Kind as text
use Rattle.anyon_app.specs.declared.texts.Kind.TheVariants.{Category, Program as ProgramText, Schedule}
use Rattle.anyon_app.specs.declared.stop.Stop.{Stop}
use Rattle.anyon_app.specs.declared.stop.Stop.TheVariants.{RefusalLine, LimitLine, Unread, Memory}
use Rattle.anyon_app.specs.Replies.{Reply, done}
use Rattle.anyon_app.specs.Stages.{GivesUp}
use Rattle.anyon_app.specs.Refusals.{number_line, stop_line, too_long}
use Rattle.anyon_app.specs.Work.{Says, WantsNone, judged, reply_of, text_limit}
use Rattle.anyon_app.specs.Categories.{named_of}
use Rattle.anyon_app.specs.Verdicts.{category_verdict, symbols_in, unless}
use Rattle.anyon_app.specs.Programs.{outcomes_by, outcomes_or, program_of_text, turns_of_text}
use Rattle.anyon_app.specs.Make.{category_made, from_two, in_hand, made_of, make_work, number_of, program_made, report_made, size_verdict, summary_made, turns_made}
use Rattle.anyon_app.specs.Laws.{MakesRows}
use Rattle.anyon_app.proofs.LawLemmas.{category_is, no_category, nothing_where, refused_apart, some_same, verdict_apart}
use Rattle.anyon_app.proofs.RunLemmas.{no_program, no_schedule, program_is, stop_apart}

-- no text is wanted
says_only : (stated : Result (List ℕ) Reply) → WantsNone (judged stated (λ report. Says (done report)))
says_only (Ok report) = tt
says_only (Err reply) = tt

pub wants_none : (word : List ℕ) → WantsNone (make_work word)
unfolding make_work
wants_none word = says_only (made_of word)

-- A stage that gives up is no report.
abbrev NoReport : {A : Type 0} → Result A Reply → Type 0
NoReport stated = (reply : Reply) (report : List ℕ) → stated ≡ Err reply → reply ≡ done report → ⊥

no_err : {A : Type 0} (line : Reply) → ((report : List ℕ) → line ≡ done report → ⊥) → NoReport {A = A} (Err line)
no_err line apart reply report is e = let same : line ≡ reply = cc in apart report (same ∙ e)

no_ok : {A : Type 0} (x : A) → NoReport (Ok x)
no_ok x reply report is e = absurd cc

no_then : {A B : Type 0} (stated : Result A Reply) (next : A → Result B Reply) → NoReport stated → ((x : A) → NoReport (next x)) → NoReport (stated >>= next)
no_then (Ok x) next first later = later x
no_then (Err line) next first later = no_err line (λ report e. first line report refl e)

no_unless : (o : Option Reply) → ((reply : Reply) (report : List ℕ) → o ≡ Some reply → reply ≡ done report → ⊥) → NoReport (unless o)
no_unless None apart = no_ok tt
no_unless (Some line) apart = no_err line (λ report e. apart line report refl e)

no_number : (word : List ℕ) → NoReport (number_of word)
no_number word = along (plain_number_of word)
  where
    by_test : (b : Bool) (n : ℕ) → NoReport (if b then Ok n else Err number_line)
    by_test true n = no_ok n
    by_test false n = no_err number_line (λ report e. refused_apart _ report e)

    along : (o : Option ℕ) → NoReport (from_two o)
    along None = no_err number_line (λ report e. refused_apart _ report e)
    along (Some n) = by_test (nat_lt 1 n && nat_lt n 13) n

no_size : (kind : text.Kind) (text : List ℕ) → NoReport (unless (size_verdict kind text))
no_size kind text = no_unless (size_verdict kind text) (by_test (nat_lt text_limit (length text)))
  where
    by_test : (b : Bool) (reply : Reply) (report : List ℕ) → (if b then Some (too_long kind) else None) ≡ Some reply → reply ≡ done report → ⊥
    by_test true reply report is e = refused_apart _ report (some_same (too_long kind) reply is ∙ e)
    by_test false reply report is e = absurd cc

no_hand : {T : Type 0} (kind : text.Kind) (reader : List ℕ → Result T Reply) (text : List ℕ) → NoReport (reader text) → NoReport (in_hand kind reader text)
no_hand kind reader text apart = no_then (unless (size_verdict kind text)) (λ _. reader text) (no_size kind text) (λ _. apart)

no_category_made : (n : ℕ) → NoReport (category_made n)
unfolding category_made
no_category_made n =
    no_then (in_hand Category named_of (canonical (made_category n))) _
    (no_hand Category named_of (canonical (made_category n)) (no_category (canonical (made_category n))))
    (λ named. no_then (unless (category_verdict named)) _ (no_unless (category_verdict named) (verdict_apart named.names (rules_fault named.given.count named.given.fuse) (first_of_all (symbols_in named)))) (λ _. no_ok named))

no_outcomes : {A : Type 0} (outcomes : Outcomes Ratio) (stated : Result A RunStop) → NoReport (outcomes_or outcomes stated)
no_outcomes outcomes (Ok evaluated) = no_ok outcomes
no_outcomes outcomes (Err stop) = no_err (stop_line stop) (λ report e. stop_apart stop report e)

no_report_made : (n : ℕ) → NoReport (report_made n)
unfolding report_made program_made turns_made
no_report_made n =
    no_then (category_made n) _ (no_category_made n) (λ named.
    no_then (program_made n named) _ (no_hand ProgramText (program_of_text ProgramText named) _ (no_program ProgramText (program_in named.names named.given.fuse (written (label_names n) (made_program n))))) (λ plan.
    no_then (turns_made plan) _ (no_hand Schedule (turns_of_text plan) made_schedule (no_schedule plan (schedule_of plan made_schedule))) (λ turns.
    no_then (outcomes_by named plan turns) _ (no_outcomes _ (scheduled_weights (symbols_in named) plan turns)) (λ outcomes. no_ok _))))

no_report : (word : List ℕ) → NoReport (made_of word)
unfolding made_of
no_report word = no_then (number_of word) report_made (no_number word) no_report_made

-- What was passed on the way to a value.
record Passed {A B : Type 0} (stated : Result A Reply) (next : A → Result B Reply) (value : B) : Type 0 where
  passed : A
  is : stated ≡ Ok passed
  went : next passed ≡ Ok value

pass : {A B : Type 0} (stated : Result A Reply) (next : A → Result B Reply) (value : B) → (stated >>= next) ≡ Ok value → Passed stated next value
pass (Ok x) next value went = record { passed = x; is = refl; went = went }
pass (Err reply) next value went = absurd cc

abbrev ok_of : {A : Type 0} → A → Result A Reply
ok_of x = Ok x

ok_same : {A : Type 0} (x y : A) → ok_of x ≡ ok_of y → x ≡ y
ok_same x y e = cc

none_where : (o : Option Reply) (x : Unit {0}) → unless o ≡ Ok x → o ≡ None
none_where None x e = refl
none_where (Some reply) x e = absurd cc

-- a number that is made of
record IsNumber (word : List ℕ) (n : ℕ) : Type 0 where
  word_is : plain_number_of word ≡ Some n
  some : 2 ≤ n
  few : n ≤ 12

number_is : (word : List ℕ) (n : ℕ) → number_of word ≡ Ok n → IsNumber word n
number_is word n is = along (plain_number_of word) refl is
  where
    by_test : (b : Bool) (m : ℕ) → plain_number_of word ≡ Some m → (nat_lt 1 m && nat_lt m 13) ≡ b → (if b then Ok m else Err number_line) ≡ Ok n → IsNumber word n
    by_test true m e test is =
        let same : m ≡ n = ok_same m n is in
        record { word_is = e ∙ ap Some same; some = (let s = same in grind (arith, nat_tests)); few = (let s = same in grind (arith, nat_tests)) }
    by_test false m e test is = absurd cc

    along : (o : Option ℕ) → plain_number_of word ≡ o → from_two o ≡ Ok n → IsNumber word n
    along None e is = absurd cc
    along (Some m) e is = by_test (nat_lt 1 m && nat_lt m 13) m e refl is

-- a category that was read of its text
read_same : (made named : NamedSymbols) → ReadAgain made → category_of (canonical made) ≡ Ok named → SameSymbols made named
read_same made named again e = subst (λ r. IsOkAnd r (SameSymbols made)) e again

record IsMade (n : ℕ) (named : NamedSymbols) : Type 0 where
  same : SameSymbols (made_category n) named
  lawful : IsLawful (symbols_in named)

category_made_is : (n : ℕ) (named : NamedSymbols) → ReadAgain (made_category n) → category_made n ≡ Ok named → IsMade n named
unfolding category_made
category_made_is n named again is =
    let hand = pass (in_hand Category named_of (canonical (made_category n))) _ named is in
    let read = pass (unless (size_verdict Category (canonical (made_category n)))) _ hand.passed hand.is in
    let judged = pass (unless (category_verdict hand.passed)) _ named hand.went in
    let same : hand.passed ≡ named = ok_same hand.passed named judged.went in
    let nothing = nothing_where hand.passed.names (rules_fault hand.passed.given.count hand.passed.given.fuse) (first_of_all (symbols_in hand.passed)) (none_where (category_verdict hand.passed) judged.passed judged.is) in
    let lawful = sound (ring_at hand.passed.root) held (ring_at_laws hand.passed.root) hand.passed.given nothing.no_fault nothing.no_event in
    record {
      same = subst (SameSymbols (made_category n)) same (read_same (made_category n) hand.passed again (category_is (category_of (canonical (made_category n))) hand.passed read.went));
      lawful = subst (λ x. IsLawful (symbols_in x)) same lawful;
    }

program_made_is : (n : ℕ) (named : NamedSymbols) (plan : Program) → SameSymbols (made_category n) named
    → program_in (label_names n) (group_fuses n) (written (label_names n) (made_program n)) ≡ Ok (made_program n) → program_made n named ≡ Ok plan → plan ≡ made_program n
unfolding program_made
program_made_is n named plan same reads is =
    let text = written (label_names n) (made_program n) in
    let hand = pass (unless (size_verdict ProgramText text)) _ plan is in
    let read : program_in named.names named.given.fuse text ≡ Ok plan = program_is ProgramText (program_in named.names named.given.fuse text) plan hand.went in
    let moved : program_in (label_names n) (group_fuses n) text ≡ program_in named.names named.given.fuse text = (λ j. program_in (same.names j) (λ a b c. same.fuse a b c j) text) in
    let both = sym read ∙ (sym moved ∙ reads) in
    cc

ended : (stated : Result (List ℕ) Reply) (files : Files) (report : List ℕ) → NoReport stated → reply_of (judged stated (λ r. Says (done r))) files ≡ Some (done report) → stated ≡ Ok report
ended (Ok other) files report apart went = ap Ok (ap (λ (r : Reply). r.bytes) (some_same _ (done report) went))
ended (Err reply) files report apart went = absurd (apart reply report refl (some_same reply (done report) went))

outcomes_is : {A : Type 0} (outcomes other : Outcomes Ratio) (stated : Result A RunStop) → outcomes_or outcomes stated ≡ Ok other → outcomes ≡ other
outcomes_is outcomes other (Ok evaluated) e = ok_same outcomes other e
outcomes_is outcomes other (Err stop) e = absurd cc

pub makes_rows : CategoriesRead → ProgramsRead → MakesRows
unfolding make_work made_of report_made
makes_rows categories programs files word report went =
    let end = ended (made_of word) files report (no_report word) went in
    let first = pass (number_of word) _ report end in
    let number = number_is word first.passed first.is in
    let second = pass (category_made first.passed) _ report first.went in
    let third = pass (program_made first.passed second.passed) _ report second.went in
    let fourth = pass (turns_made third.passed) _ report third.went in
    let fifth = pass (outcomes_by second.passed third.passed fourth.passed) _ report fourth.went in
    let made = category_made_is first.passed second.passed (categories first.passed number.some number.few) second.is in
    let plan = program_made_is first.passed second.passed third.passed made.same (programs first.passed number.some number.few) third.is in
    let outcomes = outcomes_is (outcomes_of (symbols_in second.passed) third.passed.start (commands_in third.passed.sites)) fifth.passed (scheduled_weights (symbols_in second.passed) third.passed fourth.passed) fifth.is in
    record {
      number = first.passed;
      word_is = number.word_is;
      some = number.some;
      few = number.few;
      named = second.passed;
      same = made.same;
      lawful = made.lawful;
      report_is = sym (ok_same _ report fifth.went)
          ∙ (ap (summary_of first.passed (length (commands_in third.passed.sites)) (measurements (commands_in third.passed.sites))) (sym outcomes)
          ∙ ap (λ (p : Program). summary_of first.passed (length (commands_in p.sites)) (measurements (commands_in p.sites)) (outcomes_of (symbols_in second.passed) p.start (commands_in p.sites))) plan);
    }

-- a stop gives up what follows, too
given_up : {A B : Type 0} (stated : Result A Reply) (next : A → Result B Reply) (stop : Stop) → GivesUp stop stated → GivesUp stop (stated >>= next)
given_up stated next (RefusalLine line) up = ap (λ s. s >>= next) up
given_up stated next (LimitLine line) up = ap (λ s. s >>= next) up
given_up stated next Unread up = up
given_up stated next Memory up = tt

pub stops_at_turns : (n : ℕ) (named : NamedSymbols) (plan : Program) (stop : Stop) → category_made n ≡ Ok named → program_made n named ≡ Ok plan → GivesUp stop (turns_made plan) → GivesUp stop (report_made n)
unfolding report_made
stops_at_turns n named plan stop first second up =
    let from_plan : Result Program Reply → Result (List ℕ) Reply = λ s. s >>= (λ p. turns_made p >>= (λ turns. summary_made n named p turns)) in
    let from_named : Result NamedSymbols Reply → Result (List ℕ) Reply = λ s. s >>= (λ x. program_made n x >>= (λ p. turns_made p >>= (λ turns. summary_made n x p turns))) in
    subst (GivesUp stop) (sym (ap from_named first ∙ ap from_plan second)) (given_up (turns_made plan) (λ turns. summary_made n named plan turns) stop up)
