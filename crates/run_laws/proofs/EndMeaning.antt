-- The live words at the end of a run, and the word before its first turn.
use Rattle.std.proofs.Common.{◌≡◌, ℕ, ◌<◌, ◌≤◌, Bool, true, inl, inr, List, [], ◌∷◌, length, replicate, refl, ap, sym, subst, ◌∙◌, arith}
use Rattle.std.specs.Prelude.{Ok, nat_lt}
use Rattle.std.specs.List.{AllByRecursion}
use Rattle.std.proofs.Math.ListN.{get_or-eq_default}
use Rattle.std.proofs.lemmas.List.{get_or-replicate, length-replicate, ext_get_or}
use Rattle.std.proofs.lemmas.Bool.Decides.{leb_tells}
use Rattle.comb_laws.proofs.PathFacts.{nat_lt_true}
use Rattle.comb_laws.specs.Words.{Acts, word_state}
use Rattle.program_text.specs.Letters.{gap_of, letters, measurements}
use Rattle.program_text.specs.declared.letter.Letter.{Letter}
use Rattle.word_runs.specs.Told.{Told, IsGap, AreShapes}
use Rattle.word_runs.specs.Runs.{Live, run_of, start_word}
use Rattle.word_runs.specs.Lives.{IsFit, IsPlaceBelow}
use Rattle.word_runs.proofs.EachLemmas.{all_append, all_map}
use Rattle.run_laws.specs.Timely.{is_known, is_timely, known_after, MeasureEach}
use Rattle.run_laws.specs.Turns.{in_text, turns}
use Rattle.run_laws.specs.Schedules.{Range, IsWithin, AreApart, CommuteFar, ScheduleEnds, site_letters}
use Rattle.run_laws.specs.Meaning.{IsFaithful, IsWord, IsFull, AreLiving, AreEnds, TextEnds}
use Rattle.run_laws.proofs.Apart.{every_schedule}
use Rattle.run_laws.proofs.Counts.{takes_all}
use Rattle.run_laws.proofs.LetterPlaces.{lt_true, places_below, all_turns, text_measures_each, schedules_measure_each}
use Rattle.run_laws.proofs.RunMeaning.{run_means}
use Rattle.run_laws.proofs.TextOrder.{letters_of_text}

-- a word without outcomes is the word of zeros
no_labels : (count m : ℕ) (w : List ℕ) → IsWord count m [] w → w ≡ replicate m 0
no_labels count m w is =
    ext_get_or 0 w (replicate m 0) (is.long ∙ sym (length-replicate m 0))
    (λ i low.
    let long : length w ≡ m = is.long in
    let inside : i < m = omega arith in
    is.unmade i refl ∙ sym (get_or-replicate m i 0 0 inside))

past_end : (m p : ℕ) → m ≤ p → length {A = ℕ} (replicate m 0) ≤ p
past_end m p h = subst (λ n. n ≤ p) (sym (length-replicate m 0)) h

zeros_are : (count m : ℕ) → IsWord count m [] (replicate m 0)
zeros_are count m = record {
  long = length-replicate m 0;
  label = λ p low k. absurd (cc);
  unmade = λ p k. elim (leb_tells m p) [
    | inl past ↦ get_or-eq_default (replicate m 0) 0 (past_end m p past.1)
    | inr inside ↦ get_or-replicate m p 0 0 (omega arith)
  ];
}

-- a word all of whose places are measured is full
module _ (count m : ℕ) (known : List ℕ) (cover : (p : ℕ) → is_known known p ≡ nat_lt p m) where
  full_word : (w : List ℕ) → IsFull count m w → IsWord count m known w
  full_word w is = record {
    long = is.long;
    label = λ p low k. is.label p low;
    unmade = λ p off. elim (leb_tells m p) [
      | inl past ↦ get_or-eq_default w 0 (let long : length w ≡ m = is.long in let high : m ≤ p = past.1 in omega arith)
      | inr inside ↦ absurd (let on = cover p ∙ lt_true p m (omega arith) in cc)
    ];
  }

  word_full : (w : List ℕ) → IsWord count m known w → IsFull count m w
  word_full w is = record { long = is.long; label = λ p low. is.label p low (cover p ∙ lt_true p m low) }

module _ {M T V : Type 0} (e : Told M T) (shapes : AreShapes e) (count : ℕ) (act : Acts V) (Good : V → Type 0) (nought : V → Bool) (Stands : M → V → Type 0)
    (faithful : IsFaithful e count act Good nought Stands) where
  -- before the first turn
  start_living : (m : ℕ) (s : M) (v : V) → Good v → Stands s v → AreLiving count m Good nought Stands [] (λ w. v) (start_word m s)
  start_living m s v good stands = record {
    good = λ w. good;
    reads = λ w w' same. refl;
    sound = ((zeros_are count m, stands), tt);
    complete = λ w is n. inl (no_labels count m w is);
    distinct = (tt, tt);
  }

  all_fit : (m : ℕ) (ls : List Letter) → AllByRecursion (λ l. IsGap e (gap_of l)) ls → AllByRecursion (IsPlaceBelow m) ls → AllByRecursion (IsFit e m) ls
  all_fit m [] gaps places = tt
  all_fit m (l ∷ ls) gaps places = (record { gap = gaps.0; place = places.0 }, all_fit m ls gaps.1 places.1)

  -- letters in time that measure each place once end with the words whose vector isn't zero
  pub ends_are : (m : ℕ) (ls : List Letter) (s : M) (v : V) (live : List (Live M)) → AllByRecursion (λ l. IsGap e (gap_of l)) ls → MeasureEach m ls → is_timely [] ls ≡ true
      → Good v → Stands s v → run_of e 1 ls (start_word m s) ≡ Ok live → AreEnds count m act Good nought Stands ls v live
  ends_are m ls s v live gaps each timely good stands ends =
      let known = known_after [] ls in
      let fit = all_fit m ls gaps (places_below m ls [] timely (λ p on. nat_lt_true p m (sym (each.places p) ∙ on))) in
      let living = run_means e shapes count m act Good nought Stands faithful 1 ls [] (λ w. v) (start_word m s) live fit timely each.once ends (e.shape s, (refl, tt)) (start_living m s v good stands) in
      record {
        good = living.good;
        sound = all_map (λ l. IsWord count m known l.word × Stands l.state (word_state act l.word ls v))
            (λ l. IsFull count m l.word × Stands l.state (word_state act l.word ls v))
            live (λ l p. (word_full count m known each.places l.word p.0, p.1)) living.sound;
        complete = λ w is n. living.complete w (full_word count m known each.places w is) n;
        distinct = living.distinct;
      }

  -- in the order of the text
  pub text_ends : TextEnds e count act Good nought Stands
  text_ends commands s v live gaps timely good stands ends =
      ends_are (measurements commands) (letters 0 commands) s v live gaps (text_measures_each commands) timely good stands ends

  within_gap : (r : Range) (l : Letter) → IsWithin e.strands r l → IsGap e (gap_of l)
  within_gap r l is = record { low = is.above; high = is.below }

  all_gaps : (ranges : List Range) (sites : List (List Letter)) → AreApart e.strands ranges sites → AllByRecursion (λ l. IsGap e (gap_of l)) (in_text sites)
  all_gaps [] [] h = tt
  all_gaps [] (ls ∷ sites) h = absurd h
  all_gaps (r ∷ ranges) [] h = absurd h
  all_gaps (r ∷ ranges) (ls ∷ sites) h =
      all_append (λ l. IsGap e (gap_of l)) ls (in_text sites) (all_map (IsWithin e.strands r) (λ l. IsGap e (gap_of l)) ls (within_gap r) h.0) (all_gaps ranges sites h.2)

  -- and of any schedule
  pub schedule_ends : CommuteFar e.strands act Good → ScheduleEnds e count act Good nought Stands
  schedule_ends far ranges sites schedule s v live apart legal timely good stands ends =
      let m = measurements (in_text sites) in
      let site_ls = site_letters 0 sites in
      let ls = turns site_ls schedule in
      let text = letters 0 (in_text sites) in
      let gaps = all_turns (λ l. IsGap e (gap_of l)) schedule site_ls (takes_all schedule site_ls legal) (all_gaps ranges site_ls apart) in
      let are = ends_are m ls s v live gaps (schedules_measure_each sites schedule legal) timely good stands ends in
      let same = λ (w : List ℕ). every_schedule e.strands act Good far ranges site_ls schedule w v apart legal good ∙ ap (λ t. word_state act w t v) (letters_of_text 0 sites) in
      record {
        good = λ w. subst Good (same w) (are.good w);
        sound = all_map (λ l. IsFull count m l.word × Stands l.state (word_state act l.word ls v))
            (λ l. IsFull count m l.word × Stands l.state (word_state act l.word text v))
            live (λ l p. (p.0, subst (Stands l.state) (same l.word) p.1)) are.sound;
        complete = λ w is n. are.complete w is (ap nought (same w) ∙ n);
        distinct = are.distinct;
      }
