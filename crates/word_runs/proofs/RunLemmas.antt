-- The turns of commands, one after another.
use Rattle.std.proofs.Common.{◌≡◌, ℕ, ◌+◌, ◌<◌, ◌≤◌, List, [], ◌∷◌, length, replicate, suc, refl, ap, sym, subst, ◌∙◌, arith}
use Rattle.std.specs.Prelude.{Result, Ok}
use Rattle.std.specs.List.{AllByRecursion}
use Rattle.std.proofs.lemmas.List.{length-replicate}
use Rattle.program_text.specs.Letters.{IsTestOf, gap_of, letter_at, letters, outcomes_of, measurements}
use Rattle.program_text.specs.declared.letter.Letter.{Letter}
use Rattle.program_text.specs.declared.plan.Command.{Command}
use Rattle.program_text.specs.declared.plan.Command.TheVariants.{Braid, Raise, Measure, BraidWhen}
use Rattle.word_runs.specs.Told.{Told, IsGap}
use Rattle.word_runs.specs.Runs.{Live, turn_of, run_of, ◌>>>◌, Stops}
use Rattle.word_runs.specs.Lives.{AreAlike, IsFit}
use Rattle.word_runs.specs.declared.fault.RunFault.{RunFault}
use Rattle.word_runs.specs.declared.fault.RunStop.{RunStop}
use Rattle.word_runs.proofs.StepLemmas.{stops_on}

-- how many measurements there are with a command in front
pub measurements_more : (c : Command) (cs : List Command) → measurements (c ∷ cs) ≡ outcomes_of c + measurements cs
measurements_more (Braid k sign) cs = omega arith
measurements_more (Raise k) cs = omega arith
measurements_more (Measure k) cs = omega arith
measurements_more (BraidWhen k sign place label) cs = omega arith

-- a command has at most one
pub outcomes_few : (c : Command) → outcomes_of c ≤ 1
outcomes_few (Braid k sign) = omega arith
outcomes_few (Raise k) = omega arith
outcomes_few (Measure k) = omega arith
outcomes_few (BraidWhen k sign place label) = omega arith

-- as many letters as commands
pub letters_long : (p : ℕ) (cs : List Command) → length (letters p cs) ≡ length cs
letters_long p [] = refl
letters_long p (c ∷ cs) = ap suc (letters_long (p + outcomes_of c) cs)

module _ {M T : Type 0} (e : Told M T) where
  letter_fit : (m p : ℕ) (c : Command) (cs : List Command) → p + measurements (c ∷ cs) ≤ m → IsTestOf m c → IsGap e (gap_of (letter_at p c)) → IsFit e m (letter_at p c)
  letter_fit m p (Braid k sign) cs low test gap = record { gap = gap; place = tt }
  letter_fit m p (Raise k) cs low test gap = record { gap = gap; place = tt }
  letter_fit m p (Measure k) cs low test gap = let here : p < m = omega arith in record { gap = gap; place = here }
  letter_fit m p (BraidWhen k sign place label) cs low test gap = record { gap = gap; place = test }

  -- letters at gaps, with tests of measurements, are fit for words of as many places as there are measurements
  pub letters_fit : (m p : ℕ) (cs : List Command) → p + measurements cs ≤ m → AllByRecursion (IsTestOf m) cs → AllByRecursion (λ l. IsGap e (gap_of l)) (letters p cs) → AllByRecursion (IsFit e m) (letters p cs)
  letters_fit m p [] low tests gaps = tt
  letters_fit m p (c ∷ cs) low tests gaps =
      let more = measurements_more c cs in
      (letter_fit m p c cs low tests.0 gaps.0, letters_fit m (p + outcomes_of c) cs (omega (arith, more)) tests.1 gaps.1)

  -- a turn that ends hands on what the turns behind it see
  pub turn_more : (turn : ℕ) (l : Letter) (ls : List Letter) (old new : List (Live M)) (stated : Result (List (Live M)) RunStop)
      → turn_of e turn l old ≡ Ok new → run_of e turn (l ∷ ls) old ≡ stated → run_of e (turn + 1) ls new ≡ stated
  turn_more turn l ls old new stated h s = sym (ap (λ r. r >>> run_of e (turn + 1) ls) h) ∙ s

  -- a turn that stops is the stop of the run
  pub turn_stops : (turn : ℕ) (l : Letter) (ls : List Letter) (old : List (Live M)) (fault : RunFault) (stated : Result (List (Live M)) RunStop)
      → Stops fault (turn_of e turn l old) → run_of e turn (l ∷ ls) old ≡ stated → Stops fault stated
  turn_stops turn l ls old fault stated h s = subst (Stops fault) s (stops_on fault (turn_of e turn l old) (run_of e (turn + 1) ls) h)

  -- the one live word at the beginning
  pub one_alike : (m : ℕ) (s : M) → AreAlike e m (record { word = replicate m 0; state = s } ∷ [])
  one_alike m s = record { shape = e.shape s; same = (refl, tt); long = (length-replicate m 0, tt) }
