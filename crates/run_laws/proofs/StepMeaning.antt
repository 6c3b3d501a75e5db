-- What raises and exchanges make of what live words mean.
use Rattle.std.proofs.Common.{◌≡◌, ℕ, Bool, true, false, List, [], ◌∷◌, map, Option, Some, None, refl, ap, sym, subst, ◌∙◌}
use Rattle.std.specs.Prelude.{Ok, if◌then◌else◌}
use Rattle.std.specs.List.{AllByRecursion}
use Rattle.ring_laws.proofs.StatedLemmas.{some_inj}
use Rattle.comb_laws.specs.Words.{Acts, acted_by}
use Rattle.comb_laws.specs.declared.operator.Operator.{Operator}
use Rattle.comb_laws.specs.declared.operator.Operator.TheVariants as operator
use Rattle.program_text.specs.declared.plan.Sign.{Sign}
use Rattle.word_runs.specs.Told.{Told, IsGap, AreShapes}
use Rattle.word_runs.specs.Runs.{Live, Test, passes, each, step_word, step_words, step_of, raises_of}
use Rattle.word_runs.specs.declared.engine.Step.{Step}
use Rattle.word_runs.specs.declared.engine.Step.TheVariants.{Raise, Exchange}
use Rattle.word_runs.proofs.EachLemmas.{ok_same, ok_first, both_parts, each_keeps}
use Rattle.word_runs.proofs.StepLemmas.{SteppedBy, stepped_by, step_of_ok}
use Rattle.word_runs.proofs.TurnLemmas.{Pairs, raised_pairs}
use Rattle.run_laws.specs.Meaning.{IsIn, AreDistinct, IsFaithful, IsWord, Agree, words_of, AreLiving}

pub all_both : {A : Type 0} (P Q : A → Type 0) (xs : List A) → AllByRecursion P xs → AllByRecursion Q xs → AllByRecursion (λ x. P x × Q x) xs
all_both P Q [] a b = tt
all_both P Q (x ∷ xs) a b = ((a.0, b.0), all_both P Q xs a.1 b.1)

-- what f keeps of each it keeps of all
each_same : {A B C : Type 0} (f : A → Option B) (g : A → C) (h : B → C) → ((x : A) (y : B) → f x ≡ Some y → h y ≡ g x)
    → (xs : List A) (ys : List B) → each f xs ≡ Some ys → map h ys ≡ map g xs
each_same f g h same [] ys e = ap (map h) (sym (some_inj [] ys e))
each_same f g h same (x ∷ xs) ys e =
    let p = both_parts (f x) (each f xs) ys e in
    ap (map h) p.is ∙ (λ j. same x p.head p.first j ∷ each_same f g h same xs p.tail p.rest j)

-- a step keeps the words
pub same_words : {M T : Type 0} (e : Told M T) (test : Option Test) (step : Step) (old new : List (Live M)) → step_words e test step old ≡ Some new → words_of new ≡ words_of old
same_words e test step old new h =
    each_same (step_word e test step) (λ l. l.word) (λ l. l.word) (λ l n s. (stepped_by l n (passes test l.word) (e.stepped step l.state) s).0) old new h

module _ {M T V : Type 0} (e : Told M T) (shapes : AreShapes e) (count m : ℕ) (act : Acts V) (Good : V → Type 0) (nought : V → Bool) (Stands : M → V → Type 0)
    (faithful : IsFaithful e count act Good nought Stands) where
  abbrev pub Living : List ℕ → (List ℕ → V) → List (Live M) → Type 0
  Living known vector live = AreLiving count m Good nought Stands known vector live

  -- what an operator makes something of is not zero
  pub act_some : (k : ℕ) (o : Operator) (v : V) → IsGap e k → Good v → nought (act k o v) ≡ false → nought v ≡ false
  act_some k o v gap good some = by (nought v) refl
    where
      by : (b : Bool) → nought v ≡ b → nought v ≡ false
      by true none = absurd (let off = faithful.nothing k o v gap good none in cc)
      by false none = none

  -- what holds of a live word
  abbrev pub Right : List ℕ → (List ℕ → V) → Live M → Type 0
  Right known vector l = IsWord count m known l.word × Stands l.state (vector l.word)

  -- a raise of all live words
  pub raise_means : (k : ℕ) (known : List ℕ) (vector : List ℕ → V) (old new : List (Live M)) → IsGap e k → step_words e None (Raise k) old ≡ Some new
      → Living known vector old → Living known vector new
  raise_means k known vector old new gap h living =
      let words = same_words e None (Raise k) old new h in
      record {
        good = living.good;
        reads = living.reads;
        sound = each_keeps (step_word e None (Raise k)) (Right known vector) (Right known vector)
            (λ l n s p.
            let by = stepped_by l n true (e.stepped (Raise k) l.state) s in (
              subst (IsWord count m known) (sym by.0) p.0,
              faithful.raise k l.state n.state (vector n.word) gap (living.good n.word) by.1 (subst (λ w. Stands l.state (vector w)) (sym by.0) p.1),
            ))
            old new h living.sound;
        complete = λ w is n. subst (IsIn w) (sym words) (living.complete w is n);
        distinct = subst AreDistinct (sym words) living.distinct;
      }

  -- the raises of a path
  pub raises_mean : (turn k : ℕ) (path known : List ℕ) (vector : List ℕ → V) (old new : List (Live M)) → AllByRecursion (IsGap e) path
      → raises_of e turn path old ≡ Ok new → Pairs e shapes k path old → Living known vector old → Living known vector new × Pairs e shapes k [] new
  raises_mean turn k [] known vector old new gaps h pairs living =
      let same = ok_same _ old new refl h in
      (subst (Living known vector) same living, subst (Pairs e shapes k []) same pairs)
  raises_mean turn k (g ∷ path) known vector old new gaps h pairs living =
      let first = ok_first (step_of e turn None (Raise g) old) (raises_of e turn path) new h in
      raises_mean turn k path known vector first.0 new gaps.1 first.2 (raised_pairs e shapes k turn g path old first.0 first.1 pairs)
      (raise_means g known vector old first.0 gaps.0 (step_of_ok e turn None (Raise g) old first.0 first.1) living)

  -- an exchange on a word that passes a test, and nothing on another
  abbrev exchanged : ℕ → Sign → Bool → V → V
  exchanged k sign passed v = acted_by act k (if passed then Some (operator.Exchange sign) else None) v

  -- what an exchange with a test makes of the vector of a word
  abbrev pub tested : ℕ → Sign → Option Test → (List ℕ → V) → List ℕ → V
  tested k sign test vector w = exchanged k sign (passes test w) (vector w)

  exchange_one : (k : ℕ) (sign : Sign) (b : Bool) (l n : Live M) (v : V) → IsGap e k → e.is_pair k (e.shape l.state) ≡ true → Good v
      → SteppedBy b (e.stepped (Exchange k sign) l.state) l n → Stands l.state v → Stands n.state (exchanged k sign b v)
  exchange_one k sign true l n v gap pair good by s = faithful.exchange k sign l.state n.state v gap good pair by.1 s
  exchange_one k sign false l n v gap pair good by s = subst (λ t. Stands t v) (some_inj l.state n.state by.1) s

  exchange_some : (k : ℕ) (sign : Sign) (b : Bool) (v : V) → IsGap e k → Good v → nought (exchanged k sign b v) ≡ false → nought v ≡ false
  exchange_some k sign true v gap good h = act_some k (operator.Exchange sign) v gap good h
  exchange_some k sign false v gap good h = h

  exchange_good : (k : ℕ) (sign : Sign) (b : Bool) (v : V) → IsGap e k → Good v → Good (exchanged k sign b v)
  exchange_good k sign true v gap good = faithful.keeps k (operator.Exchange sign) v gap good
  exchange_good k sign false v gap good = good

  -- a test of what is known
  abbrev pub Sees : List ℕ → Option Test → Type 0
  Sees known test = (w w' : List ℕ) → Agree known w w' → passes test w ≡ passes test w'

  -- an exchange on the live words that pass it
  pub exchange_means : (k : ℕ) (sign : Sign) (test : Option Test) (known : List ℕ) (vector : List ℕ → V) (old new : List (Live M)) → IsGap e k → Sees known test
      → Pairs e shapes k [] old → step_words e test (Exchange k sign) old ≡ Some new → Living known vector old → Living known (tested k sign test vector) new
  exchange_means k sign test known vector old new gap sees pairs h living =
      let words = same_words e test (Exchange k sign) old new h in
      record {
        good = λ w. exchange_good k sign (passes test w) (vector w) gap (living.good w);
        reads = λ w w' same j. exchanged k sign (sees w w' same j) (living.reads w w' same j);
        sound = each_keeps (step_word e test (Exchange k sign))
            (λ l. (e.is_pair k (e.shape l.state) ≡ true) × Right known vector l) (Right known (tested k sign test vector))
            (λ l n s p.
            let by = stepped_by l n (passes test l.word) (e.stepped (Exchange k sign) l.state) s in
            let one = exchange_one k sign (passes test l.word) l n (vector l.word) gap p.0 (living.good l.word) by p.1.1 in (
              subst (IsWord count m known) (sym by.0) p.1.0,
              subst (λ w. Stands n.state (tested k sign test vector w)) (sym by.0) one,
            ))
            old new h (all_both (λ l. e.is_pair k (e.shape l.state) ≡ true) (Right known vector) old pairs living.sound);
        complete = λ w is n. subst (IsIn w) (sym words) (living.complete w is (exchange_some k sign (passes test w) (vector w) gap (living.good w) n));
        distinct = subst AreDistinct (sym words) living.distinct;
      }
