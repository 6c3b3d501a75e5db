-- The rows of live words, and the end of a run.
use Rattle.std.proofs.Common.{◌≡◌, ℕ, ◌+◌, ◌<◌, Bool, List, [], ◌∷◌, ◌++◌, length, drop, get_or, Option, Some, None, refl, ap, sym, ◌∙◌}
use Rattle.std.specs.Prelude.{Result, Ok, Err, IfOk}
use Rattle.std.proofs.lemmas.List.{map-append}
use Rattle.ring_laws.specs.Stated.{◌>>=◌, steps_over}
use Rattle.program_text.specs.declared.plan.Command.{Command}
use Rattle.word_runs.specs.Lives.{live_of, lives_of}
use Rattle.word_runs.specs.Runs.{Live, ◌>>>◌, fitting, Runs, Stops}
use Rattle.word_runs.specs.Told.{Told}
use Rattle.word_runs.specs.declared.fault.StepFault.{StepFault}
use Rattle.word_runs.specs.declared.fault.StepFault.TheVariants.{TooLarge}
use Rattle.word_runs.specs.declared.fault.RunFault.{RunFault}
use Rattle.word_runs.specs.declared.fault.RunFault.TheVariants.{Stop, Memory}
use Rattle.word_runs.specs.declared.fault.RunStop.{RunStop}
use Rattle.word_runs.specs.declared.fault.RunStop.TheVariants.{Overflow}
use Rattle.word_runs.specs.declared.live.LiveWord.{LiveWord}
use Rattle.word_runs.proofs.EachLemmas.{next_item}
use Rattle.outcome_rows.specs.Evaluated.{ends_from, row_added, row_step, rows_at, rows_from}
use Rattle.outcome_rows.specs.Rows.{rows_of}
use Rattle.outcome_rows.specs.declared.rows.Row.{Row}

-- one more row
pub rows_pushed : {R E : Type 0} (old new : List (Row R E)) (row : Row R E) (word : List ℕ) → new ≡ old ++ row ∷ [] → row.word.items ≡ word → rows_of new ≡ rows_of old ++ (word, row.weight) ∷ []
rows_pushed {R} {E} old new row word made is =
    ap rows_of made ∙ (map-append (λ (r : Row R E). (r.word.items, r.weight)) old (row ∷ []) ∙ (λ j. rows_of old ++ (is j, row.weight) ∷ []))

module _ {S M W : Type 0} (seen : S → M) (weigh : M → Option W) (zero : W → Bool) where
  next_word : (ws : List (LiveWord S)) (i : ℕ) (w : LiveWord S) → w ≡ get_or ws i w → i < length ws → drop i ws ≡ w ∷ drop (i + 1) ws
  next_word ws i w is low = next_item ws i w low ∙ ap (λ v. v ∷ drop (i + 1) ws) (sym is)

  module _ (ws : List (LiveWord S)) (i : ℕ) (w : LiveWord S) (is : w ≡ get_or ws i w) (low : i < length ws) (rows : List (List ℕ × W)) (all : Option (List (List ℕ × W)))
      (before : steps_over (row_step weigh zero) (lives_of seen (drop i ws)) rows ≡ all) where
    here : (row_step weigh zero (live_of seen w) rows >>= λ (more : List (List ℕ × W)). steps_over (row_step weigh zero) (lives_of seen (drop (i + 1) ws)) more) ≡ all
    here = ap (λ (left : List (LiveWord S)). steps_over (row_step weigh zero) (lives_of seen left) rows) (sym (next_word ws i w is low)) ∙ before

    -- the rows that follow one more word
    pub rows_next : (weight : W) (more : List (List ℕ × W)) → weigh (seen w.state) ≡ Some weight → more ≡ row_added zero w.word.items weight rows
        → steps_over (row_step weigh zero) (lives_of seen (drop (i + 1) ws)) more ≡ all
    rows_next weight more fits e =
        ap (steps_over (row_step weigh zero) (lives_of seen (drop (i + 1) ws))) e
        ∙ (ap (λ o. (o >>= λ (x : W). Some (row_added zero w.word.items x rows)) >>= λ (m : List (List ℕ × W)). steps_over (row_step weigh zero) (lives_of seen (drop (i + 1) ws)) m) (sym fits) ∙ here)

    -- a word whose weight doesn't fit stops all
    pub rows_stop : weigh (seen w.state) ≡ None → all ≡ None
    rows_stop e = sym here ∙ ap (λ o. (o >>= λ (x : W). Some (row_added zero w.word.items x rows)) >>= λ (m : List (List ℕ × W)). steps_over (row_step weigh zero) (lives_of seen (drop (i + 1) ws)) m) e

-- the end of a run
module _ {M T W : Type 0} (e : Told M T) (weigh : M → Option W) (zero : W → Bool) (s : M) (commands : List Command) (ends : List (Live M)) (ended : ends_from e s commands ≡ Ok ends) where
  pub weighed : rows_from e weigh zero s commands ≡ fitting (1 + length commands) (rows_at weigh zero ends)
  weighed = ap (λ r. r >>> λ live. fitting (1 + length commands) (rows_at weigh zero live)) ended

-- a step that stops in a turn stops the run there
pub stops_there : {A : Type 0} (fault : StepFault) (told : RunFault) (turn : ℕ) (stated : Result A RunStop) → (fault ≡ TooLarge → told ≡ Stop (Overflow turn)) → (fault ≡ StepFault.Memory → told ≡ Memory)
    → (fault ≡ TooLarge → stated ≡ Err (Overflow turn)) → Stops told stated
stops_there TooLarge told turn stated large room is = rw (large refl) (is refl)
stops_there StepFault.Memory told turn stated large room is = rw (room refl) tt

-- what stops a step stops all
pub stops_through : {A B : Type 0} (fault : RunFault) (r : Result A RunStop) (f : A → Result B RunStop) → Stops fault r → Stops fault (r >>> f)
stops_through (Stop stop) r f h = ap (λ x. x >>> f) h
stops_through Memory r f h = tt

-- what holds of the value in which an evaluation ends holds of an answer
pub if_ended : {V A : Type 0} (P : A → Type 0) (view : V → A) (r : Result V RunFault) (stated : Result A RunStop) → Runs view r stated → ((x : A) → stated ≡ Ok x → P x) → IfOk r (λ v. P (view v))
if_ended P view (Ok v) stated is holds = holds (view v) is
if_ended P view (Err fault) stated is holds = tt

-- what follows of a value follows of an answer
pub if_ok_map : {V F : Type 0} (P Q : V → Type 0) (r : Result V F) → IfOk r P → ((v : V) → P v → Q v) → IfOk r Q
if_ok_map P Q (Ok v) h follows = follows v h
if_ok_map P Q (Err fault) h follows = tt
