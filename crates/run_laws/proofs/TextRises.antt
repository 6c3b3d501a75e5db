-- In the order of the text live words are made in the order of lists of labels.
use Rattle.std.proofs.Common.{◌≡◌, ℕ, zero, suc, ◌+◌, ◌<◌, ◌≤◌, List, [], ◌∷◌, ◌++◌, map, length, replicate, Option, Some, None, refl, ap, sym, subst, ◌∙◌, arith, inl, inr}
use Rattle.std.specs.Prelude.{Ok, slice_set, slice_index}
use Rattle.std.specs.List.{AllByRecursion}
use Rattle.std.specs.List.Sorted.{IsStrictlySortedBy}
use Rattle.std.specs.Ordering.{nat_cmp, ordering_then}
use Rattle.std.specs.declared.cmp.Ordering.TheVariants.{Less, Equal, Greater}
use Rattle.std.specs.declared.cmp.Ordering.{Ordering}
use Rattle.std.proofs.Math.ListN.{get_or-eq_default}
use Rattle.std.proofs.lemmas.Bool.Decides.{leb_tells}
use Rattle.std.proofs.lemmas.List.{get_or-replicate, get_or-set_other, length-replicate, length-set, ext_get_or, map-append}
use Rattle.program_text.specs.Letters.{letter_at, letters, measurements, outcomes_of}
use Rattle.program_text.specs.declared.plan.Sign.{Sign}
use Rattle.program_text.specs.declared.plan.Command.{Command}
use Rattle.program_text.specs.declared.plan.Command.TheVariants.{Braid, Raise, Measure, BraidWhen}
use Rattle.word_runs.specs.Told.{Told}
use Rattle.word_runs.specs.Runs.{Live, Test, outcomes_of as outcomes_at, split_word, split_words, step_of, split_of, raises_of, settled, path_of, turn_of, run_of, start_word, ◌>>>◌}
use Rattle.word_runs.specs.declared.engine.Step.TheVariants.{Raise as RaiseStep, Exchange}
use Rattle.word_runs.proofs.EachLemmas.{all_append, ok_same, ok_first}
use Rattle.word_runs.proofs.RunLemmas.{measurements_more}
use Rattle.word_runs.proofs.SplitLemmas.{joined_parts, made_of}
use Rattle.word_runs.proofs.StepLemmas.{fitted, step_of_ok}
use Rattle.ring_laws.proofs.StatedLemmas.{some_inj}
use Rattle.run_laws.specs.Meaning.{words_of}
use Rattle.run_laws.specs.Rows.{word_cmp, HasRisingParts, TextRises}
use Rattle.run_laws.proofs.OrderLemmas.{nat_cmp_same}
use Rattle.run_laws.proofs.StepMeaning.{same_words}

-- a word of m places without outcomes from place p on
record IsOpen (m p : ℕ) (w : List ℕ) : Type 0 where
  pub long : length w ≡ m
  pub unmade : (j : ℕ) → p ≤ j → slice_index w j ≡ 0

-- Words in order stay so where labels come in order at a place.
set_less : (w : List ℕ) (p q r : ℕ) → p < length w → nat_cmp q r ≡ Less → word_cmp (slice_set w p q) (slice_set w p r) ≡ Less
set_less [] p q r low h = absurd (omega arith)
set_less (x ∷ w) zero q r low h = rw h refl
set_less (x ∷ w) (suc p) q r low h = rw (nat_cmp_same x) (set_less w p q r (omega arith) h)

set_keeps : (w v : List ℕ) (m p q r : ℕ) → IsOpen m p w → IsOpen m p v → word_cmp w v ≡ Less → word_cmp (slice_set w p q) (slice_set v p r) ≡ Less
set_keeps [] [] m p q r a b h = absurd (cc)
set_keeps [] (y ∷ v) m p q r a b h =
    absurd (let none : 0 ≡ m = a.long in let some : suc (length v) ≡ m = b.long in omega arith)
set_keeps (x ∷ w) [] m p q r a b h =
    absurd (let none : 0 ≡ m = b.long in let some : suc (length w) ≡ m = a.long in omega arith)
set_keeps (x ∷ w) (y ∷ v) m zero q r a b h =
    absurd (let same = ext_get_or 0 (x ∷ w) (y ∷ v) (a.long ∙ sym b.long) (λ i low. a.unmade i (omega arith) ∙ sym (b.unmade i (omega arith))) in
    let equal : word_cmp (y ∷ v) (y ∷ v) ≡ Less = ap (λ u. word_cmp u (y ∷ v)) (sym same) ∙ h in
    not_less (y ∷ v) equal)
  where
    not_less : (u : List ℕ) → word_cmp u u ≡ Less → ⊥
    not_less [] e = absurd (cc)
    not_less (z ∷ u) e = not_less u (sym (ap (λ o. ordering_then o (word_cmp u u)) (nat_cmp_same z)) ∙ e)
set_keeps (x ∷ w) (y ∷ v) m (suc p) q r a b h = by (nat_cmp x y) h (λ rest. set_keeps w v (length w) p q r open_w open_v rest)
  where
    open_w : IsOpen (length w) p w
    open_w = record { long = refl; unmade = λ j low. a.unmade (suc j) (omega arith) }

    open_v : IsOpen (length w) p v
    open_v = record { long = (let one : suc (length w) ≡ m = a.long in let other : suc (length v) ≡ m = b.long in omega arith); unmade = λ j low. b.unmade (suc j) (omega arith) }

    by : (o : Ordering) → ordering_then o (word_cmp w v) ≡ Less → (word_cmp w v ≡ Less → word_cmp (slice_set w p q) (slice_set v p r) ≡ Less)
        → ordering_then o (word_cmp (slice_set w p q) (slice_set v p r)) ≡ Less
    by Less e rest = refl
    by Equal e rest = rest e
    by Greater e rest = absurd (cc)

still_open : (m p q : ℕ) (w : List ℕ) → IsOpen m p w → IsOpen m (p + 1) (slice_set w p q)
still_open m p q w is = record {
  long = length-set w p q ∙ is.long;
  unmade = λ j low. get_or-set_other w p j q 0 (λ e. absurd (omega arith)) ∙ is.unmade j (omega arith);
}

rising_append : (xs ys : List (List ℕ)) → IsStrictlySortedBy word_cmp xs → IsStrictlySortedBy word_cmp ys
    → AllByRecursion (λ x. AllByRecursion (λ y. word_cmp x y ≡ Less) ys) xs → IsStrictlySortedBy word_cmp (xs ++ ys)
unfolding IsStrictlySortedBy
rising_append [] ys sx sy h = sy
rising_append (x ∷ xs) ys sx sy h = (all_append (λ y. word_cmp x y ≡ Less) xs ys sx.0 h.0, rising_append xs ys sx.1 sy h.1)

made_words : {M : Type 0} (p : ℕ) (w : List ℕ) (parts : List (ℕ × M)) → words_of (outcomes_at p w parts) ≡ map (λ q. slice_set w p q) (map (λ part. part.0) parts)
made_words p w [] = refl
made_words p w (x ∷ parts) = ap (λ ws. slice_set w p x.0 ∷ ws) (made_words p w parts)

module _ (m p : ℕ) (below : p < m) where
  -- the words of one word rise with their labels
  made_rise : (w : List ℕ) → length w ≡ m → (qs : List ℕ) → IsStrictlySortedBy nat_cmp qs → IsStrictlySortedBy word_cmp (map (λ q. slice_set w p q) qs)
  unfolding IsStrictlySortedBy
  made_rise w long [] s = tt
  made_rise w long (q ∷ qs) s = (firsts qs s.0, made_rise w long qs s.1)
    where
      firsts : (rs : List ℕ) → AllByRecursion (λ r. nat_cmp q r ≡ Less) rs → AllByRecursion (λ v. word_cmp (slice_set w p q) v ≡ Less) (map (λ r. slice_set w p r) rs)
      firsts [] a = tt
      firsts (r ∷ rs) a = (set_less w p q r (omega (arith, long)) a.0, firsts rs a.1)

  -- a made word is below those that are made of a later one
  made_below : (w v : List ℕ) (q : ℕ) → IsOpen m p w → IsOpen m p v → word_cmp w v ≡ Less → (qs : List ℕ) → AllByRecursion (λ u. word_cmp (slice_set w p q) u ≡ Less) (map (λ r. slice_set v p r) qs)
  made_below w v q a b h [] = tt
  made_below w v q a b h (r ∷ qs) = (set_keeps w v m p q r a b h, made_below w v q a b h qs)

  made_open : (w : List ℕ) → IsOpen m p w → (qs : List ℕ) → AllByRecursion (IsOpen m (p + 1)) (map (λ q. slice_set w p q) qs)
  made_open w is [] = tt
  made_open w is (q ∷ qs) = (still_open m p q w is, made_open w is qs)

-- words in order, without outcomes from place p on
record AreRising (m p : ℕ) (ws : List (List ℕ)) : Type 0 where
  pub rising : IsStrictlySortedBy word_cmp ws
  pub unmade : AllByRecursion (IsOpen m p) ws

module _ {M T : Type 0} (e : Told M T) (parts : HasRisingParts e) (m : ℕ) where
  module _ (k p : ℕ) (below : p < m) where
    split_below : (w : List ℕ) (q : ℕ) → IsOpen m p w → (live next : List (Live M)) → split_words e k p live ≡ Some next → AllByRecursion (IsOpen m p) (words_of live)
        → AllByRecursion (λ v. word_cmp w v ≡ Less) (words_of live) → AllByRecursion (λ u. word_cmp (slice_set w p q) u ≡ Less) (words_of next)
    split_below w q is [] next h open_words less = subst (λ ls. AllByRecursion (λ u. word_cmp (slice_set w p q) u ≡ Less) (words_of ls)) (some_inj [] next h) tt
    split_below w q is (l ∷ live) next h open_words less =
        let j = joined_parts (split_word e k p l) (split_words e k p live) next h in
        let made = made_of p l.word (e.parts k l.state) j.head j.first in
        let P = λ (u : List ℕ). word_cmp (slice_set w p q) u ≡ Less in
        subst (AllByRecursion P) (sym (ap words_of j.is ∙ map-append (λ (n : Live M). n.word) j.head j.tail))
        (all_append P (words_of j.head) (words_of j.tail)
        (subst (AllByRecursion P) (sym (ap words_of made.is ∙ made_words p l.word made.parts)) (made_below m p below w l.word q is open_words.0 less.0 (map (λ part. part.0) made.parts)))
        (split_below w q is live j.tail j.others open_words.1 less.1))

    split_all_below : (w : List ℕ) → IsOpen m p w → (qs : List ℕ) (live next : List (Live M)) → split_words e k p live ≡ Some next → AllByRecursion (IsOpen m p) (words_of live)
        → AllByRecursion (λ v. word_cmp w v ≡ Less) (words_of live) → AllByRecursion (λ x. AllByRecursion (λ u. word_cmp x u ≡ Less) (words_of next)) (map (λ q. slice_set w p q) qs)
    split_all_below w is [] live next h open_words less = tt
    split_all_below w is (q ∷ qs) live next h open_words less = (split_below w q is live next h open_words less, split_all_below w is qs live next h open_words less)

    split_rises : (live next : List (Live M)) → split_words e k p live ≡ Some next → AreRising m p (words_of live) → AreRising m (p + 1) (words_of next)
    unfolding IsStrictlySortedBy
    split_rises [] next h is = subst (λ ls. AreRising m (p + 1) (words_of ls)) (some_inj [] next h) (record { rising = tt; unmade = tt })
    split_rises (l ∷ live) next h is =
        let j = joined_parts (split_word e k p l) (split_words e k p live) next h in
        let made = made_of p l.word (e.parts k l.state) j.head j.first in
        let qs = map (λ part. part.0) made.parts in
        let head = ap words_of made.is ∙ made_words p l.word made.parts in
        let rest = split_rises live j.tail j.others (record { rising = is.rising.1; unmade = is.unmade.1 }) in
        subst (AreRising m (p + 1)) (sym (ap words_of j.is ∙ (map-append (λ (n : Live M). n.word) j.head j.tail ∙ ap (λ ws. ws ++ words_of j.tail) head)))
        (record {
          rising = rising_append (map (λ q. slice_set l.word p q) qs) (words_of j.tail) (made_rise m p below l.word is.unmade.0.long qs (parts k l.state made.parts made.some)) rest.rising
              (split_all_below l.word is.unmade.0 qs live j.tail j.others is.unmade.1 is.rising.0);
          unmade = all_append (IsOpen m (p + 1)) (map (λ q. slice_set l.word p q) qs) (words_of j.tail) (made_open m p below l.word is.unmade.0 qs) rest.unmade;
        })

  raises_words : (turn : ℕ) (path : List ℕ) (old new : List (Live M)) → raises_of e turn path old ≡ Ok new → words_of new ≡ words_of old
  raises_words turn [] old new h = ap words_of (sym (ok_same _ old new refl h))
  raises_words turn (g ∷ path) old new h =
      let first = ok_first (step_of e turn None (RaiseStep g) old) (raises_of e turn path) new h in
      raises_words turn path first.0 new first.2 ∙ same_words e None (RaiseStep g) old first.0 (step_of_ok e turn None (RaiseStep g) old first.0 first.1)

  exchange_words : (turn k : ℕ) (sign : Sign) (test : Option Test) (old new : List (Live M)) → (settled e turn k old >>> step_of e turn test (Exchange k sign)) ≡ Ok new → words_of new ≡ words_of old
  exchange_words turn k sign test old new h =
      let first = ok_first (settled e turn k old) (step_of e turn test (Exchange k sign)) new h in
      same_words e test (Exchange k sign) first.0 new (step_of_ok e turn test (Exchange k sign) first.0 new first.2) ∙ raises_words turn (path_of e k old) old first.0 first.1

  same_place : (p : ℕ) (ws : List (List ℕ)) → AreRising m p ws → AreRising m (p + 0) ws
  same_place p ws is = let same : p ≡ p + 0 = omega arith in subst (λ q. AreRising m q ws) same is

  -- one turn of the text
  turn_rises : (turn p : ℕ) (c : Command) (old new : List (Live M)) → p + outcomes_of c ≤ m → turn_of e turn (letter_at p c) old ≡ Ok new → AreRising m p (words_of old) → AreRising m (p + outcomes_of c) (words_of new)
  turn_rises turn p (Braid k sign) old new low h is = same_place p (words_of new) (subst (AreRising m p) (sym (exchange_words turn k sign None old new h)) is)
  turn_rises turn p (Raise k) old new low h is =
      same_place p (words_of new) (subst (AreRising m p) (sym (same_words e None (RaiseStep k) old new (step_of_ok e turn None (RaiseStep k) old new h))) is)
  turn_rises turn p (BraidWhen k sign place label) old new low h is =
      same_place p (words_of new) (subst (AreRising m p) (sym (exchange_words turn k sign (Some (record { place = place; label = label })) old new h)) is)
  turn_rises turn p (Measure k) old new low h is =
      let first = ok_first (settled e turn k old) (split_of e turn k p) new h in
      split_rises k p (omega (arith, low)) first.0 new (fitted e turn new (split_words e k p first.0) first.2) (subst (AreRising m p) (sym (raises_words turn (path_of e k old) old first.0 first.1)) is)

  run_rises : (turn p : ℕ) (cs : List Command) (old new : List (Live M)) → p + measurements cs ≤ m → run_of e turn (letters p cs) old ≡ Ok new → AreRising m p (words_of old) → IsStrictlySortedBy word_cmp (words_of new)
  run_rises turn p [] old new low h is = subst (λ ls. IsStrictlySortedBy word_cmp (words_of ls)) (ok_same _ old new refl h) is.rising
  run_rises turn p (c ∷ cs) old new low h is =
      let more = measurements_more c cs in
      let first = ok_first (turn_of e turn (letter_at p c) old) (run_of e (turn + 1) (letters (p + outcomes_of c) cs)) new h in
      run_rises (turn + 1) (p + outcomes_of c) cs first.0 new (omega (arith, more)) first.2 (turn_rises turn p c old first.0 (omega (arith, more)) first.1 is)

pub text_rises : {M T : Type 0} (e : Told M T) → TextRises e
unfolding IsStrictlySortedBy
text_rises e parts commands s live h =
    run_rises e parts (measurements commands) 1 0 commands (start_word (measurements commands) s) live (omega arith) h (start (measurements commands))
  where
    start : (m : ℕ) → AreRising m 0 (replicate m 0 ∷ [])
    start m = record {
      rising = (tt, tt);
      unmade = (record { long = length-replicate m 0; unmade = λ j low. zero_at m j }, tt);
    }
      where
        zero_at : (n j : ℕ) → slice_index (replicate n 0) j ≡ 0
        zero_at n j = elim (leb_tells n j) [
          | inl past ↦ get_or-eq_default (replicate n 0) 0 (subst (λ i. i ≤ j) (sym (length-replicate n 0)) past.1)
          | inr inside ↦ get_or-replicate n j 0 0 (omega arith)
        ]
