-- Stages make a command.
use Rattle.std.specs.Prelude.{IfOk}
use Rattle.std.proofs.Common.{◌≡◌, inl, inr, ℕ, ◌≤◌, List, length, true, false, Option, Some, Result, Ok, Err, Vec, Global, refl, sym, ap, subst, ◌∙◌, arith, nat_lt, if◌then◌else◌}
use Rattle.std.proofs.lemmas.Bool.Decides.{nat_tests}
use Rattle.std.specs.Option.{option_and_then}
use Rattle.io_ports.specs.Ports.{Files, Rose}
use Rattle.anyon_app.specs.declared.stop.Stop.{Stop}
use Rattle.anyon_app.specs.declared.stop.Stop.TheVariants.{RefusalLine, LimitLine, Unread, Memory}
use Rattle.anyon_app.specs.Replies.{Reply, done, refused, limited}
use Rattle.anyon_app.specs.Work.{Work, Says, reply_of, Reaches, Names, text_limit, text_work, judged, read_work}
use Rattle.anyon_app.specs.Stages.{Loads, Worked, Passes, Gives, GivesUp, StopsWith, reply_in}

-- a stop with a reply gives up what is stated to be this reply
pub gives_up : {T : Type 0} (reply : Reply) (stop : Stop) (stated : Result T Reply) → stated ≡ Err reply → StopsWith reply stop → GivesUp stop stated
gives_up reply (RefusalLine line) stated is stops = is ∙ ap Err stops
gives_up reply (LimitLine line) stated is stops = is ∙ ap Err stops
gives_up reply Unread stated is stops = stops
gives_up reply Memory stated is stops = tt

module _ {S : Type 0} (files : S → Option Files) (faults : S → List ℕ → ℕ) where
  -- a reply that no text decides
  says : (old : S) (reply : Reply) (result : Result (Vec ℕ Global) Stop) → (reply_in result ≡ Some reply) → (result ≡ Err Unread → ⊥) → Worked files faults old old (Says reply) result
  says old reply result is read = record {
    answered = λ other given known decides. sym is ∙ given;
    unread = λ failed. absurd (read failed);
    kept = refl;
    later = λ other. omega arith;
  }

  -- want of memory says nothing
  wants_memory : (old : S) (work : Work) → Worked files faults old old work (Err Memory)
  wants_memory old work = record {
    answered = λ other given known decides. absurd (cc);
    unread = λ failed. absurd (cc);
    kept = refl;
    later = λ other. omega arith;
  }

  -- a stage that reads no text stops the command
  pub stops_here : {T : Type 0} (old : S) (stop : Stop) (stated : Result T Reply) → GivesUp stop stated → (next : T → Work) → Worked files faults old old (judged stated next) (Err stop)
  stops_here old (RefusalLine line) stated up next = subst (λ w. Worked files faults old old w (Err (RefusalLine line))) (ap (λ s. judged s next) (sym up)) (says old (refused line.items) (Err (RefusalLine line)) refl (λ failed. cc))
  stops_here old (LimitLine line) stated up next = subst (λ w. Worked files faults old old w (Err (LimitLine line))) (ap (λ s. judged s next) (sym up)) (says old (limited line.items) (Err (LimitLine line)) refl (λ failed. cc))
  stops_here old Unread stated up next = absurd up
  stops_here old Memory stated up next = wants_memory old (judged stated next)

  -- a stage that reads no text goes on with its value
  pub goes_on : {T : Type 0} (old newer : S) (value : T) (stated : Result T Reply) → stated ≡ Ok value → (next : T → Work) (final : Result (Vec ℕ Global) Stop)
      → Worked files faults old newer (next value) final → Worked files faults old newer (judged stated next) final
  goes_on old newer value stated gives next final worked = subst (λ w. Worked files faults old newer w final) (ap (λ s. judged s next) (sym gives)) worked

  -- the last stage gives the report
  pub reports : (old : S) (result : Result (Vec ℕ Global) Stop) (stated : Result (List ℕ) Reply) → Gives (λ report. report.items) result stated → Worked files faults old old (judged stated (λ report. Says (done report))) result
  reports old (Ok report) stated gives = subst (λ w. Worked files faults old old w (Ok report)) (ap (λ s. judged s (λ r. Says (done r))) (sym gives)) (says old (done report.items) (Ok report) refl (λ failed. cc))
  reports old (Err stop) stated gives = stops_here old stop stated gives (λ report. Says (done report))

  -- one text
  module _ (old new : S) (too_long : Reply) (name : List ℕ) where
    stopped : (stop : Stop) → Loads files faults old new too_long name (Err stop) → (next : List ℕ → Work) → Worked files faults old new (text_work too_long name next) (Err stop)
    stopped stop loads next = record {
      answered = λ reply given known decides.
          let long = loads.long stop refl reply given in
          let told : files old ≡ Some known = elim decides [ inl is ↦ is | inr none ↦ absurd none ] in
          let found = long.1 known told in
          let past : nat_lt text_limit (length found.0) ≡ true = grind (arith, nat_tests) in
          ap (option_and_then (λ text. reply_of (if nat_lt text_limit (length text) then Says too_long else next text) known)) found.1
          ∙ ap (λ b. reply_of (if b then Says too_long else next found.0) known) past ∙ ap Some (sym long.0);
      unread = λ failed. (name, inl refl, loads.unread failed, λ known told. inl refl);
      kept = loads.kept;
      later = loads.later;
    }

    passed : (text : Vec ℕ Global) → Loads files faults old new too_long name (Ok text) → (next : List ℕ → Work) (newer : S) (final : Result (Vec ℕ Global) Stop)
        → Worked files faults new newer (next text.items) final → Worked files faults old newer (text_work too_long name next) final
    passed text loads next newer final worked =
        let short : nat_lt text_limit (length text.items) ≡ false = grind (arith, nat_tests, loads.short) in
        let after : (if nat_lt text_limit (length text.items) then Says too_long else next text.items) ≡ next text.items = ap (λ b. if b then Says too_long else next text.items) short in
        record {
          answered = λ reply given known decides.
              let told : files old ≡ Some known = elim decides [ inl is ↦ is | inr none ↦ absurd none ] in
              ap (option_and_then (λ text. reply_of (if nat_lt text_limit (length text) then Says too_long else next text) known)) (loads.text known told)
              ∙ ap (λ w. reply_of w known) after ∙ worked.answered reply given known (inl (loads.kept ∙ told));
          unread = λ failed.
              let cause = worked.unread failed in (
                cause.0,
                inr (text.items, subst (λ w. Names w cause.0) (sym after) cause.1),
                raised (loads.later cause.0) cause.2,
                λ known told. inr (text.items, loads.text known told, subst (λ w. Reaches w known cause.0) (sym after) (cause.3 known (loads.kept ∙ told))),
              );
          kept = worked.kept ∙ loads.kept;
          later = λ other. omega (arith, loads.later other, worked.later other);
        }
      where
        raised : {a b c : ℕ} → a ≤ b → Rose b c → Rose a c
        raised le rose = omega arith

    pub text_passes : (result : Result (Vec ℕ Global) Stop) → Loads files faults old new too_long name result → Passes files faults old new (λ text. text.items) (text_work too_long name) result
    text_passes (Ok text) loads = record { stopped = tt; passed = passed text loads }
    text_passes (Err stop) loads = record { stopped = stopped stop loads; passed = tt }

    -- one text and what it is read as
    pub read_passes : {V T : Type 0} (view : V → T) (reader : List ℕ → Result T Reply) (text : Vec ℕ Global) (result : Result V Stop)
        → Passes files faults old new (λ text. text.items) (text_work too_long name) (Ok text) → Gives view result (reader text.items)
        → Passes files faults old new view (read_work too_long reader name) result
    read_passes view reader text (Ok value) loads gives = record {
      stopped = tt;
      passed = λ next newer final worked. loads.passed (λ t. judged (reader t) next) newer final (goes_on new newer (view value) (reader text.items) gives next final worked);
    }
    read_passes view reader text (Err stop) loads gives = record {
      stopped = λ next. loads.passed (λ t. judged (reader t) next) new (Err stop) (stops_here new stop (reader text.items) gives next);
      passed = tt;
    }

-- what is said of one value holds of its equal
pub retold : {S A : Type 0} (files : S → Option Files) (faults : S → List ℕ → ℕ) (old new : S) (work : A → Work) (x y : A) (result : Result (Vec ℕ Global) Stop)
    → x ≡ y → Worked files faults old new (work x) result → Worked files faults old new (work y) result
retold files faults old new work x y result e worked = subst (λ n. Worked files faults old new (work n) result) e worked

-- a value that is read and then judged
pub judge_passes : {S V W T : Type 0} (files : S → Option Files) (faults : S → List ℕ → ℕ) (old new : S) (view : W → T) (stage : (T → Work) → Work) (value : W)
    (verdict : T → Result (Unit {0}) Reply) (seen : V → T) (result : Result V Stop)
    → Passes files faults old new view stage (Ok value) → Gives (λ _. tt) result (verdict (view value)) → IfOk result (λ v. seen v ≡ view value)
    → Passes files faults old new seen (λ next. stage (λ t. judged (verdict t) (λ _. next t))) result
judge_passes files faults old new view stage value verdict seen (Ok v) reads gives same = record {
  stopped = tt;
  passed = λ next newer final worked.
      reads.passed (λ t. judged (verdict t) (λ _. next t)) newer final
      (goes_on files faults new newer tt (verdict (view value)) gives (λ _. next (view value)) final (retold files faults new newer next (seen v) (view value) final same worked));
}
judge_passes files faults old new view stage value verdict seen (Err stop) reads gives same = record {
  stopped = λ next. reads.passed (λ t. judged (verdict t) (λ _. next t)) new (Err stop) (stops_here files faults new stop (verdict (view value)) gives (λ _. next (view value)));
  passed = tt;
}
