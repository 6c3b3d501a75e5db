-- The steps of a turn.
use Rattle.std.proofs.Common.{◌≡◌, ℕ, true, List, [], ◌∷◌, None, ap, sym, ◌∙◌}
use Rattle.std.specs.Prelude.{Result, Ok}
use Rattle.std.specs.List.{AllByRecursion}
use Rattle.word_runs.specs.Told.{Told, IsGap, AreShapes, after_raises}
use Rattle.word_runs.specs.Runs.{Live, step_of, raises_of, path_of, ◌>>>◌}
use Rattle.word_runs.specs.declared.fault.RunStop.{RunStop}
use Rattle.word_runs.specs.Lives.{HaveShape}
use Rattle.word_runs.specs.declared.engine.Step.TheVariants.{Raise}
use Rattle.word_runs.proofs.StepLemmas.{step_of_ok, step_pairs}

module _ {M T : Type 0} (e : Told M T) (shapes : AreShapes e) (k : ℕ) where
  -- what the shape of a word becomes by these raises is a pair
  abbrev pub Pairs : List ℕ → List (Live M) → Type 0
  Pairs path live = AllByRecursion (λ w. e.is_pair k (after_raises e path (e.shape w.state)) ≡ true) live

  pub path_gaps : (live : List (Live M)) → IsGap e k → AllByRecursion (IsGap e) (path_of e k live)
  path_gaps [] h = tt
  path_gaps (l ∷ live) h = shapes.gaps k (e.shape l.state) h

  path_pairs : (t : T) (path : List ℕ) (live : List (Live M)) → e.is_pair k (after_raises e path t) ≡ true → HaveShape e t live → Pairs path live
  path_pairs t path [] h s = tt
  path_pairs t path (w ∷ live) h s = (ap (λ u. e.is_pair k (after_raises e path u)) s.0 ∙ h, path_pairs t path live h s.1)

  pub all_pairs : (t : T) (live : List (Live M)) → IsGap e k → HaveShape e t live → Pairs (path_of e k live) live
  all_pairs t [] h s = tt
  all_pairs t (l ∷ live) h s =
      path_pairs t (e.path k (e.shape l.state)) (l ∷ live)
      (ap (λ u. e.is_pair k (after_raises e (e.path k u) t)) s.0 ∙ shapes.pair k t h) s

  pub raised_pairs : (turn gap : ℕ) (rest : List ℕ) (old new : List (Live M)) → step_of e turn None (Raise gap) old ≡ Ok new → Pairs (gap ∷ rest) old → Pairs rest new
  raised_pairs turn gap rest old new h p =
      step_pairs e None (Raise gap) old new (step_of_ok e turn None (Raise gap) old new h) shapes (λ word t f. absurd (cc)) (λ t. e.is_pair k (after_raises e rest t) ≡ true) p

  pub raised_left : (turn gap : ℕ) (rest : List ℕ) (old new : List (Live M)) (stated : Result (List (Live M)) RunStop) → step_of e turn None (Raise gap) old ≡ Ok new
      → raises_of e turn (gap ∷ rest) old ≡ stated → raises_of e turn rest new ≡ stated
  raised_left turn gap rest old new stated h left = sym (ap (λ r. r >>> raises_of e turn rest) h) ∙ left
