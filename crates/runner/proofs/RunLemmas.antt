-- A run leaves a live word, where steps and parts leave something of a state.
use Rattle.std.proofs.Common.{◌≡◌, ℕ, ◌+◌, ◌<◌, Bool, true, false, List, [], ◌∷◌, ◌++◌, length, Option, Some, None, refl, sym, subst, arith}
use Rattle.std.specs.Prelude.{Ok}
use Rattle.std.specs.List.{AllByRecursion}
use Rattle.ring_laws.proofs.StatedLemmas.{some_inj}
use Rattle.program_text.specs.Letters.{gap_of}
use Rattle.program_text.specs.declared.letter.Letter.{Letter}
use Rattle.program_text.specs.declared.letter.Letter.TheVariants.{Crossing, Charge, Tested, Still}
use Rattle.program_text.specs.declared.plan.Sign.{Sign}
use Rattle.word_runs.specs.Told.{Told, IsGap, AreShapes}
use Rattle.word_runs.specs.Runs.{Live, Test, ◌>>>◌, each, outcomes_of, passes, path_of, raises_of, run_of, settled, split_of, split_word, split_words, step_of, step_word, turn_of}
use Rattle.word_runs.specs.Lives.{HaveShape}
use Rattle.word_runs.specs.declared.engine.Step.TheVariants.{Raise, Exchange}
use Rattle.word_runs.proofs.EachLemmas.{all_append, both_parts, each_keeps, ok_first, ok_same}
use Rattle.word_runs.proofs.SplitLemmas.{joined_parts, made_of, split_shape}
use Rattle.word_runs.proofs.StepLemmas.{SteppedBy, fitted, step_of_ok, step_shape, stepped_by}
use Rattle.word_runs.proofs.TurnLemmas.{Pairs, all_pairs, path_gaps, raised_pairs}
use Rattle.run_laws.proofs.StepMeaning.{all_both}

-- What raises and exchanges keep of a state, and measurements of each part, of which there is one.
pub record Keeps {M T : Type 0} (e : Told M T) (P : M → Type 0) : Type 0 where
  pub raise : (k : ℕ) (s s' : M) → IsGap e k → P s → e.stepped (Raise k) s ≡ Some s' → P s'
  pub exchange : (k : ℕ) (sign : Sign) (s s' : M) → IsGap e k → e.is_pair k (e.shape s) ≡ true → P s → e.stepped (Exchange k sign) s ≡ Some s' → P s'
  pub parts : (k : ℕ) (s : M) (ps : List (ℕ × M)) → IsGap e k → e.is_pair k (e.shape s) ≡ true → P s → e.parts k s ≡ Some ps → (ps ≡ [] → ⊥) × AllByRecursion (λ part. P part.1) ps

each_some : {A B : Type 0} (f : A → Option B) (xs : List A) (ys : List B) → each f xs ≡ Some ys → 0 < length xs → 0 < length ys
each_some f [] ys h low = absurd (omega arith)
each_some {A} {B} f (x ∷ xs) ys h low = let p = both_parts (f x) (each f xs) ys h in subst (λ (l : List B). 0 < length l) (sym p.is) (omega arith)

module _ {M T : Type 0} (e : Told M T) (shapes : AreShapes e) (P : M → Type 0) (keeps : Keeps e P) where
  abbrev Kept : Live M → Type 0
  Kept l = P l.state

  -- There is a live word, all have one shape, and each is kept.
  pub record AreKept (live : List (Live M)) : Type 0 where
    pub some : 0 < length live
    pub shape : T
    pub same : HaveShape e shape live
    pub all : AllByRecursion (λ l. P l.state) live

  raised : (turn k : ℕ) (old new : List (Live M)) → IsGap e k → step_of e turn None (Raise k) old ≡ Ok new → AreKept old → AreKept new
  raised turn k old new gap h are =
      let is = step_of_ok e turn None (Raise k) old new h in
      record {
        some = each_some (step_word e None (Raise k)) old new is are.some;
        shape = e.turned k are.shape;
        same = step_shape e None (Raise k) old new is shapes (λ word t f. absurd (cc)) are.shape are.same;
        all = each_keeps (step_word e None (Raise k)) Kept Kept
            (λ l n s p. keeps.raise k l.state n.state gap p (stepped_by l n true (e.stepped (Raise k) l.state) s).1) old new is are.all;
      }

  raises : (turn k : ℕ) (path : List ℕ) (old new : List (Live M)) → AllByRecursion (IsGap e) path → raises_of e turn path old ≡ Ok new → Pairs e shapes k path old → AreKept old
      → AreKept new × Pairs e shapes k [] new
  raises turn k [] old new gaps h pairs are =
      let same = ok_same _ old new refl h in
      (subst AreKept same are, subst (Pairs e shapes k []) same pairs)
  raises turn k (g ∷ path) old new gaps h pairs are =
      let first = ok_first (step_of e turn None (Raise g) old) (raises_of e turn path) new h in
      raises turn k path first.0 new gaps.1 first.2 (raised_pairs e shapes k turn g path old first.0 first.1 pairs) (raised turn g old first.0 gaps.0 first.1 are)

  settle : (turn k : ℕ) (old new : List (Live M)) → IsGap e k → settled e turn k old ≡ Ok new → AreKept old → AreKept new × Pairs e shapes k [] new
  settle turn k old new gap h are =
      raises turn k (path_of e k old) old new (path_gaps e shapes k old gap) h (all_pairs e shapes k are.shape old gap are.same) are

  exchange_one : (k : ℕ) (sign : Sign) (b : Bool) (l n : Live M) → IsGap e k → SteppedBy b (e.stepped (Exchange k sign) l.state) l n → e.is_pair k (e.shape l.state) ≡ true → P l.state → P n.state
  exchange_one k sign true l n gap by pair p = keeps.exchange k sign l.state n.state gap pair p by.1
  exchange_one k sign false l n gap by pair p = subst P (some_inj l.state n.state by.1) p

  exchange_all : (turn k : ℕ) (sign : Sign) (test : Option Test) (old new : List (Live M)) → IsGap e k → (settled e turn k old >>> step_of e turn test (Exchange k sign)) ≡ Ok new → AreKept old → AreKept new
  exchange_all turn k sign test old new gap h are =
      let first = ok_first (settled e turn k old) (step_of e turn test (Exchange k sign)) new h in
      let ready = settle turn k old first.0 gap first.1 are in
      let is = step_of_ok e turn test (Exchange k sign) first.0 new first.2 in
      record {
        some = each_some (step_word e test (Exchange k sign)) first.0 new is ready.0.some;
        shape = ready.0.shape;
        same = step_shape e test (Exchange k sign) first.0 new is shapes (λ word t f. refl) ready.0.shape ready.0.same;
        all = each_keeps (step_word e test (Exchange k sign)) (λ l. (e.is_pair k (e.shape l.state) ≡ true) × P l.state) Kept
            (λ l n s p. exchange_one k sign (passes test l.word) l n gap (stepped_by l n (passes test l.word) (e.stepped (Exchange k sign) l.state) s) p.0 p.1)
            first.0 new is (all_both (λ l. e.is_pair k (e.shape l.state) ≡ true) Kept first.0 ready.1 ready.0.all);
      }

  outcomes_all : (place : ℕ) (word : List ℕ) (ps : List (ℕ × M)) → AllByRecursion (λ part. P part.1) ps → AllByRecursion Kept (outcomes_of place word ps)
  outcomes_all place word [] h = tt
  outcomes_all place word (x ∷ ps) h = (h.0, outcomes_all place word ps h.1)

  outcomes_some : (place : ℕ) (word : List ℕ) (ps : List (ℕ × M)) (rest : List (Live M)) → (ps ≡ [] → ⊥) → 0 < length (outcomes_of place word ps ++ rest)
  outcomes_some place word [] rest h = absurd (h refl)
  outcomes_some place word (x ∷ ps) rest h = omega arith

  split_all : (k place : ℕ) (live next : List (Live M)) → IsGap e k → split_words e k place live ≡ Some next → AllByRecursion (λ l. (e.is_pair k (e.shape l.state) ≡ true) × P l.state) live
      → AllByRecursion Kept next
  split_all k place [] next gap h ready = subst (AllByRecursion Kept) (some_inj [] next h) tt
  split_all k place (l ∷ live) next gap h ready =
      let j = joined_parts (split_word e k place l) (split_words e k place live) next h in
      let made = made_of place l.word (e.parts k l.state) j.head j.first in
      let parts = keeps.parts k l.state made.parts gap ready.0.0 ready.0.1 made.some in
      subst (AllByRecursion Kept) (sym j.is)
      (all_append Kept j.head j.tail (subst (AllByRecursion Kept) (sym made.is) (outcomes_all place l.word made.parts parts.1)) (split_all k place live j.tail gap j.others ready.1))

  split_some : (k place : ℕ) (live next : List (Live M)) → IsGap e k → split_words e k place live ≡ Some next → AllByRecursion (λ l. (e.is_pair k (e.shape l.state) ≡ true) × P l.state) live
      → 0 < length live → 0 < length next
  split_some k place [] next gap h ready low = absurd (omega arith)
  split_some k place (l ∷ live) next gap h ready low =
      let j = joined_parts (split_word e k place l) (split_words e k place live) next h in
      let made = made_of place l.word (e.parts k l.state) j.head j.first in
      let parts = keeps.parts k l.state made.parts gap ready.0.0 ready.0.1 made.some in
      subst (λ (ls : List (Live M)). 0 < length ls) (sym j.is) (subst (λ (ls : List (Live M)). 0 < length (ls ++ j.tail)) (sym made.is) (outcomes_some place l.word made.parts j.tail parts.0))

  measure_all : (turn k place : ℕ) (old new : List (Live M)) → IsGap e k → (settled e turn k old >>> split_of e turn k place) ≡ Ok new → AreKept old → AreKept new
  measure_all turn k place old new gap h are =
      let first = ok_first (settled e turn k old) (split_of e turn k place) new h in
      let ready = settle turn k old first.0 gap first.1 are in
      let is = fitted e turn new (split_words e k place first.0) first.2 in
      let each = all_both (λ l. e.is_pair k (e.shape l.state) ≡ true) Kept first.0 ready.1 ready.0.all in
      record {
        some = split_some k place first.0 new gap is each ready.0.some;
        shape = ready.0.shape;
        same = split_shape e k place shapes ready.0.shape first.0 new is ready.0.same;
        all = split_all k place first.0 new gap is each;
      }

  turn_kept : (turn : ℕ) (l : Letter) (old new : List (Live M)) → IsGap e (gap_of l) → turn_of e turn l old ≡ Ok new → AreKept old → AreKept new
  turn_kept turn (Still k) old new gap h are = raised turn k old new gap h are
  turn_kept turn (Crossing k sign) old new gap h are = exchange_all turn k sign None old new gap h are
  turn_kept turn (Tested k sign place label) old new gap h are = exchange_all turn k sign (Some (record { place = place; label = label })) old new gap h are
  turn_kept turn (Charge k place) old new gap h are = measure_all turn k place old new gap h are

  pub run_kept : (turn : ℕ) (ls : List Letter) (old new : List (Live M)) → AllByRecursion (λ l. IsGap e (gap_of l)) ls → run_of e turn ls old ≡ Ok new → AreKept old → AreKept new
  run_kept turn [] old new gaps h are = subst AreKept (ok_same _ old new refl h) are
  run_kept turn (l ∷ ls) old new gaps h are =
      let first = ok_first (turn_of e turn l old) (run_of e (turn + 1) ls) new h in
      run_kept (turn + 1) ls first.0 new gaps.1 first.2 (turn_kept turn l old first.0 gaps.0 first.1 are)
