-- Steps on live words.
use Rattle.std.proofs.Common.{◌≡◌, ℕ, Bool, true, false, List, length, Option, Some, None, refl, ap, sym, subst, ◌∙◌}
use Rattle.std.specs.Prelude.{Result, Ok, Err, if◌then◌else◌, nat_lt, OnOk, IfOk}
use Rattle.std.specs.List.{AllByRecursion}
use Rattle.ring_laws.proofs.StatedLemmas.{some_inj}
use Rattle.word_runs.specs.Told.{Told, AreShapes, after_step}
use Rattle.word_runs.specs.Runs.{Live, Test, passes, live_after, step_word, step_words, split_words, width, counted, limited, fitting, step_of, split_of, ◌>>>◌, Stops, Leaves, Runs}
use Rattle.word_runs.specs.Lives.{AreLong, AreAlike, HaveShape}
use Rattle.word_runs.specs.declared.engine.Step.{Step}
use Rattle.word_runs.specs.declared.fault.RunFault.{RunFault}
use Rattle.word_runs.specs.declared.fault.RunFault.TheVariants.{Stop, Memory}
use Rattle.word_runs.specs.declared.fault.RunStop.{RunStop}
use Rattle.word_runs.specs.declared.fault.RunStop.TheVariants.{Branches, Wide}
use Rattle.word_runs.specs.declared.limits.TheConstants.{WORD_LIMIT, AMPLITUDE_LIMIT}
use Rattle.word_runs.proofs.EachLemmas.{ok_same, each_keeps}
use Rattle.word_runs.proofs.SplitLemmas.{split_shape, split_long}

-- what a step makes of one word: either it is stepped, or it fails the test and stays
abbrev pub SteppedBy : {M : Type 0} → Bool → Option M → Live M → Live M → Type 0
SteppedBy b o l m = (m.word ≡ l.word) × ((if b then o else Some l.state) ≡ Some m.state)

stepped_state : {M : Type 0} (l m : Live M) (o : Option M) → live_after l o ≡ Some m → (m.word ≡ l.word) × (o ≡ Some m.state)
stepped_state l m None h = absurd (cc)
stepped_state {M} l m (Some s) h =
    let same = some_inj (record { word = l.word; state = s }) m h in
    (sym (ap (λ (x : Live M). x.word) same), ap (λ (x : Live M). Some x.state) same)

pub stepped_by : {M : Type 0} (l m : Live M) (b : Bool) (o : Option M) → (if b then live_after l o else Some l) ≡ Some m → SteppedBy b o l m
stepped_by l m true o h = stepped_state l m o h
stepped_by {M} l m false o h =
    let same = some_inj l m h in
    (sym (ap (λ (x : Live M). x.word) same), ap (λ (x : Live M). Some x.state) same)

module _ {M T : Type 0} (e : Told M T) where
  -- a word that is passed over keeps its shape
  abbrev pub Stays : Option Test → Step → Type 0
  Stays test step = (word : List ℕ) (t : T) → passes test word ≡ false → after_step e step t ≡ t

  shape_by : AreShapes e → (step : Step) (b : Bool) (l m : Live M) → ((t : T) → b ≡ false → after_step e step t ≡ t)
      → (if b then e.stepped step l.state else Some l.state) ≡ Some m.state → e.shape m.state ≡ after_step e step (e.shape l.state)
  shape_by shapes step true l m stays h = shapes.steps step l.state m.state h
  shape_by shapes step false l m stays h = ap e.shape (sym (some_inj l.state m.state h)) ∙ sym (stays (e.shape l.state) refl)

  module _ (test : Option Test) (step : Step) (old new : List (Live M)) (is : step_words e test step old ≡ Some new) where
    pub step_shape : AreShapes e → Stays test step → (t : T) → HaveShape e t old → HaveShape e (after_step e step t) new
    step_shape shapes stays t h =
        each_keeps (step_word e test step) (λ l. e.shape l.state ≡ t) (λ m. e.shape m.state ≡ after_step e step t)
        (λ l m s p. shape_by shapes step (passes test l.word) l m (stays l.word) (stepped_by l m (passes test l.word) (e.stepped step l.state) s).1 ∙ ap (after_step e step) p)
        old new is h

    pub step_pairs : AreShapes e → Stays test step → (P : T → Type 0) → AllByRecursion (λ l. P (after_step e step (e.shape l.state))) old → AllByRecursion (λ l. P (e.shape l.state)) new
    step_pairs shapes stays P h =
        each_keeps (step_word e test step) (λ l. P (after_step e step (e.shape l.state))) (λ m. P (e.shape m.state))
        (λ l m s p. subst P (sym (shape_by shapes step (passes test l.word) l m (stays l.word) (stepped_by l m (passes test l.word) (e.stepped step l.state) s).1)) p)
        old new is h

    step_long : (m : ℕ) → AreLong m old → AreLong m new
    step_long m h =
        each_keeps (step_word e test step) (λ l. length l.word ≡ m) (λ l. length l.word ≡ m)
        (λ l n s p. ap length (stepped_by l n (passes test l.word) (e.stepped step l.state) s).0 ∙ p) old new is h

  -- what passes the limits is left as it is
  pub limited_ok : (turn : ℕ) (live new : List (Live M)) → limited e turn live ≡ Ok new → new ≡ live
  limited_ok turn live new h = by_words (nat_lt WORD_LIMIT (length live)) (nat_lt AMPLITUDE_LIMIT (width e live)) h
    where
      by_words : (b d : Bool) → (if b then Err (Branches turn (counted (length live))) else (if d then Err (Wide turn (counted (width e live))) else Ok live)) ≡ Ok new → new ≡ live
      by_words true d h = absurd (cc)
      by_words false true h = absurd (cc)
      by_words false false h = sym (ok_same _ live new refl h)

  pub fitted : (turn : ℕ) (new : List (Live M)) (o : Option (List (Live M))) → (fitting turn o >>> limited e turn) ≡ Ok new → o ≡ Some new
  fitted turn new None h = absurd (cc)
  fitted turn new (Some live) h = ap Some (sym (limited_ok turn live new h))

  pub step_of_ok : (turn : ℕ) (test : Option Test) (step : Step) (old new : List (Live M)) → step_of e turn test step old ≡ Ok new → step_words e test step old ≡ Some new
  step_of_ok turn test step old new h = fitted turn new (step_words e test step old) h

  -- words that are alike stay so by a step
  alike_stepped : AreShapes e → (turn m : ℕ) (test : Option Test) (step : Step) (old new : List (Live M)) → Stays test step
      → step_of e turn test step old ≡ Ok new → AreAlike e m old → AreAlike e m new
  alike_stepped shapes turn m test step old new stays h live =
      let p = step_of_ok turn test step old new h in
      record {
        shape = after_step e step live.shape;
        same = step_shape test step old new p shapes stays live.shape live.same;
        long = step_long test step old new p m live.long;
      }

  -- and by a measurement
  alike_split : AreShapes e → (turn m k p : ℕ) (old new : List (Live M)) → split_of e turn k p old ≡ Ok new → AreAlike e m old → AreAlike e m new
  alike_split shapes turn m k p old new h live =
      let is = fitted turn new (split_words e k p old) h in
      record {
        shape = live.shape;
        same = split_shape e k p shapes live.shape old new is live.same;
        long = split_long e k p m old new is live.long;
      }

  -- the same of the last step of a turn
  pub alike_left : AreShapes e → (turn : ℕ) (test : Option Test) (step : Step) (before old new : List (Live M)) (r : Result (Unit {0}) RunFault)
      → Stays test step → ((m : ℕ) → AreAlike e m before → AreAlike e m old)
      → Leaves new r (step_of e turn test step old) → OnOk r ((m : ℕ) → AreAlike e m before → AreAlike e m new)
  alike_left shapes turn test step before old new (Ok u) stays from stated = λ m h. alike_stepped shapes turn m test step old new stays stated (from m h)
  alike_left shapes turn test step before old new (Err f) stays from stated = tt

  pub alike_made : {V : Type 0} → AreShapes e → (turn k p : ℕ) (before old : List (Live M)) (view : V → List (Live M)) (r : Result V RunFault)
      → ((m : ℕ) → AreAlike e m before → AreAlike e m old)
      → Runs view r (split_of e turn k p old) → IfOk r (λ next. (m : ℕ) → AreAlike e m before → AreAlike e m (view next))
  alike_made shapes turn k p before old view (Ok next) from stated = λ m h. alike_split shapes turn m k p old (view next) stated (from m h)
  alike_made shapes turn k p before old view (Err f) from stated = tt

-- a stop stays one
pub stops_on : {A B : Type 0} (fault : RunFault) (r : Result A RunStop) (f : A → Result B RunStop) → Stops fault r → Stops fault (r >>> f)
stops_on (Stop stop) r f h = rw h refl
stops_on Memory r f h = tt
