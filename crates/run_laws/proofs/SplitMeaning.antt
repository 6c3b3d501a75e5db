-- What a measurement makes of what live words mean.
use Rattle.std.proofs.Common.{◌≡◌, ℕ, ◌<◌, Bool, true, false, inl, inr, List, [], ◌∷◌, ◌++◌, map, length, get_or, Option, Some, refl, ap, sym, subst, ◌∙◌, arith}
use Rattle.std.specs.Prelude.{slice_set, slice_index, unwrap_or}
use Rattle.std.specs.List.{AllByRecursion, flat_map}
use Rattle.std.proofs.lemmas.List.{map-append, get_or-set_same}
use Rattle.ring_laws.proofs.StatedLemmas.{some_inj}
use Rattle.comb_laws.specs.Words.{Acts}
use Rattle.comb_laws.specs.declared.operator.Operator.TheVariants.{Project}
use Rattle.word_runs.specs.Told.{Told, IsGap, AreShapes}
use Rattle.word_runs.specs.Runs.{Live, outcomes_of, split_word, split_words}
use Rattle.word_runs.proofs.EachLemmas.{all_append}
use Rattle.word_runs.proofs.SplitLemmas.{joined_parts, made_of}
use Rattle.run_laws.specs.Timely.{is_known}
use Rattle.run_laws.specs.Meaning.{IsIn, AreDistinct, ArePartsOf, IsFaithful, IsWord, Agree, words_of, AreLiving}
use Rattle.run_laws.proofs.PlaceLemmas.{set_known, unset, set_back, set_agrees, set_again, known_here, known_more}
use Rattle.run_laws.proofs.DistinctLemmas.{in_map, in_first, in_second, distinct_map, distinct_flat, map_flat}
use Rattle.run_laws.proofs.StepMeaning.{all_both, act_some}

module _ {M T V : Type 0} (e : Told M T) (shapes : AreShapes e) (count m : ℕ) (act : Acts V) (Good : V → Type 0) (nought : V → Bool) (Stands : M → V → Type 0)
    (faithful : IsFaithful e count act Good nought Stands) (k p : ℕ) (gap : IsGap e k) where
  -- the parts of a word's state, none where an item doesn't fit
  abbrev parts_at : Live M → List (ℕ × M)
  parts_at l = unwrap_or (e.parts k l.state) []

  abbrev made_at : Live M → List (Live M)
  made_at l = outcomes_of p l.word (parts_at l)

  -- a word at a pair whose parts fit
  abbrev IsReady : Live M → Type 0
  IsReady l = (e.is_pair k (e.shape l.state) ≡ true) × (e.parts k l.state ≡ Some (parts_at l))

  parts_there : (o : Option (List (ℕ × M))) (ps : List (ℕ × M)) → o ≡ Some ps → ps ≡ unwrap_or o []
  parts_there o ps is = ap (λ x. unwrap_or x []) (sym is)

  -- where the words are split, the parts of each fit, and the words are those of all parts in a row
  split_is : (live next : List (Live M)) → split_words e k p live ≡ Some next
      → AllByRecursion (λ l. e.parts k l.state ≡ Some (parts_at l)) live × (next ≡ flat_map made_at live)
  split_is [] next is = (tt, sym (some_inj [] next is))
  split_is (l ∷ live) next is =
      let j = joined_parts (split_word e k p l) (split_words e k p live) next is in
      let made = made_of p l.word (e.parts k l.state) j.head j.first in
      let there = parts_there (e.parts k l.state) made.parts made.some in
      let rest = split_is live j.tail j.others in (
        (made.some ∙ ap Some there, rest.0),
        j.is ∙ (λ i. (made.is ∙ ap (outcomes_of p l.word) there) i ++ rest.1 i),
      )

  module _ (known : List ℕ) (vector : List ℕ → V) (below : p < m) (fresh : is_known known p ≡ false)
      (good : (w : List ℕ) → Good (vector w)) (reads : (w w' : List ℕ) → Agree known w w' → vector w ≡ vector w') where
    -- what the measurement makes of the vector of a word
    abbrev measured : List ℕ → V
    measured w = act k (Project (slice_index w p)) (vector w)

    abbrev Old : Live M → Type 0
    Old l = IsWord count m known l.word × Stands l.state (vector l.word)

    abbrev New : Live M → Type 0
    New l = IsWord count m (p ∷ known) l.word × Stands l.state (measured l.word)

    -- the parts of a word
    parts_of : (l : Live M) → IsReady l → Old l → ArePartsOf count (λ q. act k (Project q) (vector l.word)) nought Stands (parts_at l)
    parts_of l ready old = faithful.parts k l.state (parts_at l) (vector l.word) gap (good l.word) ready.0 ready.1 old.1

    -- the vector of a word with the outcome q at its place
    outcome_vector : (w : List ℕ) (q : ℕ) → IsWord count m known w → measured (slice_set w p q) ≡ act k (Project q) (vector w)
    outcome_vector w q is =
        let inside : p < length w = (let long : length w ≡ m = is.long in omega arith) in
        λ i. act k (Project (get_or-set_same w p q 0 inside i)) (reads (slice_set w p q) w (set_agrees count m p known below fresh w q) i)

    outcomes_new : (w : List ℕ) → IsWord count m known w → (parts : List (ℕ × M))
        → AllByRecursion (λ part. (part.0 < count) × Stands part.1 (act k (Project part.0) (vector w))) parts
        → AllByRecursion New (outcomes_of p w parts)
    outcomes_new w is [] h = tt
    outcomes_new w is (x ∷ parts) h =
        let there = outcome_vector w x.0 is in (
          (
            set_known count m p known below fresh w x.0 h.0.0 is,
            subst (Stands x.1) (sym there) h.0.1,
          ),
          outcomes_new w is parts h.1,
        )

    sound_split : (live : List (Live M)) → AllByRecursion IsReady live → AllByRecursion Old live → AllByRecursion New (flat_map made_at live)
    sound_split [] ready h = tt
    sound_split (l ∷ live) ready h =
        all_append New (made_at l) (flat_map made_at live)
        (outcomes_new l.word h.0.0 (parts_at l) (parts_of l ready.0 h.0).sound)
        (sound_split live ready.1 h.1)

    -- the words that are made
    words_at : (w : List ℕ) (parts : List (ℕ × M)) → words_of (outcomes_of p w parts) ≡ map (λ q. slice_set w p q) (map (λ part. part.0) parts)
    words_at w [] = refl
    words_at w (x ∷ parts) = ap (λ ws. slice_set w p x.0 ∷ ws) (words_at w parts)

    in_split : (w : List ℕ) (q : ℕ) → q < count → nought (act k (Project q) (vector w)) ≡ false → (live : List (Live M)) → AllByRecursion IsReady live → AllByRecursion Old live
        → IsIn w (words_of live) → IsIn (slice_set w p q) (words_of (flat_map made_at live))
    in_split w q low some [] ready h there = absurd there
    in_split w q low some (l ∷ live) ready h (inl same) =
        subst (IsIn (slice_set w p q)) (sym (map-append (λ n. n.word) (made_at l) (flat_map made_at live)))
        (in_first (slice_set w p q) (words_of (made_at l)) (words_of (flat_map made_at live))
        (subst (IsIn (slice_set w p q)) (sym (words_at l.word (parts_at l)))
        (subst (λ u. IsIn (slice_set u p q) (map (λ r. slice_set l.word p r) (map (λ part. part.0) (parts_at l)))) (sym same)
        (in_map (λ r. slice_set l.word p r) q (map (λ part. part.0) (parts_at l))
        ((parts_of l ready.0 h.0).complete q low (ap (λ u. nought (act k (Project q) (vector u))) (sym same) ∙ some))))))
    in_split w q low some (l ∷ live) ready h (inr there) =
        subst (IsIn (slice_set w p q)) (sym (map-append (λ n. n.word) (made_at l) (flat_map made_at live)))
        (in_second (slice_set w p q) (words_of (made_at l)) (words_of (flat_map made_at live))
        (in_split w q low some live ready.1 h.1 there))

    told_back : (w : List ℕ) → IsWord count m known w → (qs : List ℕ) → AllByRecursion (λ v. slice_set v p 0 ≡ w) (map (λ q. slice_set w p q) qs)
    told_back w is [] = tt
    told_back w is (q ∷ qs) = (set_back count m p known below fresh w q is, told_back w is qs)

    same_label : (w : List ℕ) → IsWord count m known w → (q r : ℕ) → slice_set w p q ≡ slice_set w p r → q ≡ r
    same_label w is q r h =
        let long : length w ≡ m = is.long in
        let inside : p < length w = omega arith in
        sym (get_or-set_same w p q 0 inside) ∙ (ap (λ v. get_or v p 0) h ∙ get_or-set_same w p r 0 inside)

    distinct_split : (live : List (Live M)) → AllByRecursion IsReady live → AllByRecursion Old live → AreDistinct (words_of live) → AreDistinct (words_of (flat_map made_at live))
    distinct_split live ready h d =
        subst AreDistinct (sym (map_flat (λ n. n.word) made_at live))
        (distinct_flat (λ l. words_of (made_at l)) (λ l. l.word) (λ v. slice_set v p 0) (λ l. IsReady l × Old l)
        (λ l o. subst AreDistinct (sym (words_at l.word (parts_at l)))
        (distinct_map (λ q. slice_set l.word p q) (same_label l.word o.1.0) (map (λ part. part.0) (parts_at l)) (parts_of l o.0 o.1).distinct))
        (λ l o. subst (AllByRecursion (λ v. slice_set v p 0 ≡ l.word)) (sym (words_at l.word (parts_at l))) (told_back l.word o.1.0 (map (λ part. part.0) (parts_at l))))
        live (all_both IsReady Old live ready h) d)

    complete_split : (live : List (Live M)) → AllByRecursion IsReady live → AreLiving count m Good nought Stands known vector live
        → (w : List ℕ) → IsWord count m (p ∷ known) w → nought (measured w) ≡ false → IsIn w (words_of (flat_map made_at live))
    complete_split live ready living w is some =
        let agree = reads (slice_set w p 0) w (λ j h. set_agrees count m p known below fresh w 0 j h) in
        let there = ap (λ v. nought (act k (Project (slice_index w p)) v)) agree ∙ some in
        subst (λ v. IsIn v (words_of (flat_map made_at live))) (set_again count m p known below fresh w)
        (in_split (slice_set w p 0) (slice_index w p) (is.label p below (known_here p known)) there live ready living.sound
        (living.complete (slice_set w p 0) (unset count m p known below fresh w is)
        (act_some e shapes count m act Good nought Stands faithful k (Project (slice_index w p)) (vector (slice_set w p 0)) gap (good (slice_set w p 0)) there)))

  -- a measurement at a place that isn't measured yet
  pub split_means : (known : List ℕ) (vector : List ℕ → V) (old new : List (Live M)) → p < m → is_known known p ≡ false
      → AllByRecursion (λ l. e.is_pair k (e.shape l.state) ≡ true) old → split_words e k p old ≡ Some new → AreLiving count m Good nought Stands known vector old
      → AreLiving count m Good nought Stands (p ∷ known) (λ w. act k (Project (slice_index w p)) (vector w)) new
  split_means known vector old new below fresh pairs h living =
      let split = split_is old new h in
      let ready = all_both (λ l. e.is_pair k (e.shape l.state) ≡ true) (λ l. e.parts k l.state ≡ Some (parts_at l)) old pairs split.0 in
      subst (AreLiving count m Good nought Stands (p ∷ known) (λ w. act k (Project (slice_index w p)) (vector w))) (sym split.1) (record {
        good = λ w. faithful.keeps k (Project (slice_index w p)) (vector w) gap (living.good w);
        reads = λ w w' same i. act k (Project (same p (known_here p known) i)) (living.reads w w' (λ j on. same j (known_more p j known on)) i);
        sound = sound_split known vector below fresh living.good living.reads old ready living.sound;
        complete = complete_split known vector below fresh living.good living.reads old ready living;
        distinct = distinct_split known vector below fresh living.good living.reads old ready living.sound living.distinct;
      })
