-- Turn after turn, the live words are exactly the words whose vector isn't zero.
use Rattle.std.proofs.Common.{◌≡◌, ℕ, ◌+◌, Bool, true, List, [], ◌∷◌, Option, Some, None, refl, ap, subst}
use Rattle.std.specs.Prelude.{Ok, ◌==◌}
use Rattle.std.specs.List.{AllByRecursion}
use Rattle.comb_laws.proofs.PathFacts.{and_true}
use Rattle.comb_laws.specs.Words.{Acts, on_word, word_state}
use Rattle.program_text.specs.declared.plan.Sign.{Sign}
use Rattle.program_text.specs.declared.letter.Letter.{Letter}
use Rattle.program_text.specs.declared.letter.Letter.TheVariants.{Crossing, Charge, Tested, Still}
use Rattle.word_runs.specs.Told.{Told, IsGap, AreShapes}
use Rattle.word_runs.specs.Runs.{Live, Test, split_words, step_of, split_of, raises_of, settled, path_of, turn_of, run_of, ◌>>>◌}
use Rattle.word_runs.specs.Lives.{HaveShape, IsFit}
use Rattle.word_runs.specs.declared.engine.Step.TheVariants.{Raise, Exchange}
use Rattle.word_runs.proofs.EachLemmas.{ok_same, ok_first}
use Rattle.word_runs.proofs.StepLemmas.{fitted, step_of_ok, step_shape}
use Rattle.word_runs.proofs.SplitLemmas.{split_shape}
use Rattle.word_runs.proofs.TurnLemmas.{Pairs, path_gaps, all_pairs}
use Rattle.run_laws.specs.Timely.{is_known, is_timely, known_after, IsFresh}
use Rattle.run_laws.specs.Meaning.{IsFaithful, AreLiving}
use Rattle.run_laws.proofs.StepMeaning.{Sees, tested, raise_means, raises_mean, exchange_means}
use Rattle.run_laws.proofs.SplitMeaning.{split_means}

module _ {M T V : Type 0} (e : Told M T) (shapes : AreShapes e) (count m : ℕ) (act : Acts V) (Good : V → Type 0) (nought : V → Bool) (Stands : M → V → Type 0)
    (faithful : IsFaithful e count act Good nought Stands) where
  abbrev Words : List ℕ → (List ℕ → V) → List (Live M) → Type 0
  Words known vector live = AreLiving count m Good nought Stands known vector live

  -- the live words have one shape
  abbrev pub Alike : List (Live M) → Type 0
  Alike live = (t : T) × HaveShape e t live

  raises_alike : (turn : ℕ) (path : List ℕ) (old new : List (Live M)) → raises_of e turn path old ≡ Ok new → Alike old → Alike new
  raises_alike turn [] old new h alike = subst Alike (ok_same _ old new refl h) alike
  raises_alike turn (g ∷ path) old new h alike =
      let first = ok_first (step_of e turn None (Raise g) old) (raises_of e turn path) new h in
      raises_alike turn path first.0 new first.2
      (e.turned g alike.0, step_shape e None (Raise g) old first.0 (step_of_ok e turn None (Raise g) old first.0 first.1) shapes (λ word t f. absurd (cc)) alike.0 alike.1)

  -- the steps that make a pair
  settle_means : (turn k : ℕ) (known : List ℕ) (vector : List ℕ → V) (old new : List (Live M)) → IsGap e k → settled e turn k old ≡ Ok new → Alike old → Words known vector old
      → Alike new × Words known vector new × Pairs e shapes k [] new
  settle_means turn k known vector old new gap h alike living =
      let path = path_of e k old in
      let r = raises_mean e shapes count m act Good nought Stands faithful turn k path known vector old new (path_gaps e shapes k old gap) h (all_pairs e shapes k alike.0 old gap alike.1) living in
      (raises_alike turn path old new h alike, r.0, r.1)

  exchange_turn : (turn k : ℕ) (sign : Sign) (test : Option Test) (known : List ℕ) (vector : List ℕ → V) (old new : List (Live M)) → IsGap e k
      → Sees e shapes count m act Good nought Stands faithful known test
      → (settled e turn k old >>> step_of e turn test (Exchange k sign)) ≡ Ok new → Alike old → Words known vector old
      → Alike new × Words known (tested e shapes count m act Good nought Stands faithful k sign test vector) new
  exchange_turn turn k sign test known vector old new gap sees h alike living =
      let first = ok_first (settled e turn k old) (step_of e turn test (Exchange k sign)) new h in
      let ready = settle_means turn k known vector old first.0 gap first.1 alike living in
      let is = step_of_ok e turn test (Exchange k sign) first.0 new first.2 in (
        (ready.0.0, step_shape e test (Exchange k sign) first.0 new is shapes (λ word t f. refl) ready.0.0 ready.0.1),
        exchange_means e shapes count m act Good nought Stands faithful k sign test known vector first.0 new gap sees ready.2 is ready.1,
      )

  -- what a letter makes of the vector of each word
  abbrev lettered : Letter → (List ℕ → V) → List ℕ → V
  lettered l vector w = on_word act w l (vector w)

  -- one turn
  turn_means : (turn : ℕ) (l : Letter) (ls : List Letter) (known : List ℕ) (vector : List ℕ → V) (old new : List (Live M)) → IsFit e m l → is_timely known (l ∷ ls) ≡ true → IsFresh known (l ∷ ls)
      → turn_of e turn l old ≡ Ok new → Alike old → Words known vector old
      → Alike new × Words (known_after known (l ∷ [])) (lettered l vector) new
  turn_means turn (Still k) ls known vector old new fit timely fresh h alike living =
      let is = step_of_ok e turn None (Raise k) old new h in (
        (e.turned k alike.0, step_shape e None (Raise k) old new is shapes (λ word t f. absurd (cc)) alike.0 alike.1),
        raise_means e shapes count m act Good nought Stands faithful k known vector old new fit.gap is living,
      )
  turn_means turn (Crossing k sign) ls known vector old new fit timely fresh h alike living =
      exchange_turn turn k sign None known vector old new fit.gap (λ w w' same. refl) h alike living
  turn_means turn (Tested k sign p q) ls known vector old new fit timely fresh h alike living =
      exchange_turn turn k sign (Some (record { place = p; label = q })) known vector old new fit.gap
      (λ w w' same. ap (λ x. x == q) (same p (and_true (is_known known p) (is_timely known ls) timely).0)) h alike living
  turn_means turn (Charge k p) ls known vector old new fit timely fresh h alike living =
      let first = ok_first (settled e turn k old) (split_of e turn k p) new h in
      let ready = settle_means turn k known vector old first.0 fit.gap first.1 alike living in
      let is = fitted e turn new (split_words e k p first.0) first.2 in (
        (ready.0.0, split_shape e k p shapes ready.0.0 first.0 new is ready.0.1),
        split_means e shapes count m act Good nought Stands faithful k p fit.gap known vector first.0 new fit.place fresh.0 ready.2 is ready.1,
      )

  -- the letters behind a first one
  timely_rest : (l : Letter) (ls : List Letter) (known : List ℕ) → is_timely known (l ∷ ls) ≡ true → is_timely (known_after known (l ∷ [])) ls ≡ true
  timely_rest (Crossing k sign) ls known h = h
  timely_rest (Charge k p) ls known h = h
  timely_rest (Tested k sign p q) ls known h = (and_true (is_known known p) (is_timely known ls) h).1
  timely_rest (Still k) ls known h = h

  fresh_rest : (l : Letter) (ls : List Letter) (known : List ℕ) → IsFresh known (l ∷ ls) → IsFresh (known_after known (l ∷ [])) ls
  fresh_rest (Crossing k sign) ls known h = h
  fresh_rest (Charge k p) ls known h = h.1
  fresh_rest (Tested k sign p q) ls known h = h
  fresh_rest (Still k) ls known h = h

  known_rest : (l : Letter) (ls : List Letter) (known : List ℕ) → known_after (known_after known (l ∷ [])) ls ≡ known_after known (l ∷ ls)
  known_rest (Crossing k sign) ls known = refl
  known_rest (Charge k p) ls known = refl
  known_rest (Tested k sign p q) ls known = refl
  known_rest (Still k) ls known = refl

  -- all turns
  pub run_means : (turn : ℕ) (ls : List Letter) (known : List ℕ) (vector : List ℕ → V) (old new : List (Live M)) → AllByRecursion (IsFit e m) ls → is_timely known ls ≡ true → IsFresh known ls
      → run_of e turn ls old ≡ Ok new → Alike old → Words known vector old
      → Words (known_after known ls) (λ w. word_state act w ls (vector w)) new
  run_means turn [] known vector old new fit timely fresh h alike living = subst (Words known vector) (ok_same _ old new refl h) living
  run_means turn (l ∷ ls) known vector old new fit timely fresh h alike living =
      let first = ok_first (turn_of e turn l old) (run_of e (turn + 1) ls) new h in
      let one = turn_means turn l ls known vector old first.0 fit.0 timely fresh first.1 alike living in
      subst (λ after. Words after (λ w. word_state act w ls (lettered l vector w)) new) (known_rest l ls known)
      (run_means (turn + 1) ls (known_after known (l ∷ [])) (lettered l vector) first.0 new fit.1 (timely_rest l ls known timely) (fresh_rest l ls known fresh) first.2 one.0 one.1)
