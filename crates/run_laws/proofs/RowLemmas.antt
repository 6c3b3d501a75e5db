-- The rows of live words are those of the plan.
use Rattle.std.proofs.Common.{◌≡◌, ℕ, Bool, true, false, not, List, [], ◌∷◌, map, Option, Some, None, refl, ap, sym, ◌∙◌}
use Rattle.std.specs.Prelude.{if◌then◌else◌}
use Rattle.std.specs.List.{AllByRecursion, filter}
use Rattle.std.proofs.lemmas.List.Kept.{IsStrictlySortedBy-filter}
use Rattle.ring_laws.proofs.StatedLemmas.{some_inj}
use Rattle.program_text.specs.declared.letter.Letter.{Letter}
use Rattle.comb_laws.specs.Plans.{words}
use Rattle.comb_laws.specs.Words.{Acts, word_state}
use Rattle.word_runs.specs.Runs.{Live}
use Rattle.word_runs.proofs.EachLemmas.{all_map, both_parts}
use Rattle.program_text.specs.Letters.{letters, measurements}
use Rattle.std.specs.List.Sorted.{IsStrictlySortedBy}
use Rattle.word_runs.specs.Told.{Told, AreShapes}
use Rattle.run_laws.specs.Schedules.{CommuteFar}
use Rattle.run_laws.specs.Turns.{in_text}
use Rattle.run_laws.proofs.EndMeaning.{text_ends, schedule_ends}
use Rattle.run_laws.specs.Meaning.{IsFull, IsFaithful, AreEnds, words_of}
use Rattle.run_laws.specs.Rows.{word_cmp, with_weight, weighed, rows_among, rows_of_plan, IsWeighing, RowsInOrder, RowsOfEnds, TextRows, ScheduleRows}
use Rattle.run_laws.proofs.OrderLemmas.{same_in_order, sorted_words, in_words, words_in, in_filter, filter_in, right_in, sorted_ends}

-- a filter of what is made of each
filter_map_is : {A B : Type 0} (f : A → B) (p : B → Bool) (xs : List A) → filter p (map f xs) ≡ map f (filter (λ x. p (f x)) xs)
filter_map_is f p [] = refl
filter_map_is {A} {B} f p (x ∷ xs) = by (p (f x)) (filter_map_is f p xs)
  where
    by : (b : Bool) → filter p (map f xs) ≡ map f (filter (λ y. p (f y)) xs)
        → (if b then f x ∷ filter p (map f xs) else filter p (map f xs)) ≡ map f (if b then x ∷ filter (λ y. p (f y)) xs else filter (λ y. p (f y)) xs)
    by true rest = ap (λ l. f x ∷ l) rest
    by false rest = rest

module _ {M V W : Type 0} (count m : ℕ) (act : Acts V) (Good : V → Type 0) (nought : V → Bool) (Stands : M → V → Type 0) (weigh : M → Option W) (weight : V → W) (zero : W → Bool)
    (weighing : IsWeighing Good nought Stands weigh weight zero) (ls : List Letter) (v : V) where
  -- a word with the weight of its vector
  abbrev row_at : List ℕ → List ℕ × W
  row_at w = (w, weight (word_state act w ls v))

  weight_at : (l : Live M) (o : Option W) (r : List ℕ × W) → weigh l.state ≡ o → with_weight l o ≡ Some r → Good (word_state act l.word ls v) → Stands l.state (word_state act l.word ls v) → r ≡ row_at l.word
  weight_at l None r is h good s = absurd (cc)
  weight_at l (Some x) r is h good s = sym (some_inj (l.word, x) r h) ∙ ap (λ y. (l.word, y)) (weighing.weighs l.state (word_state act l.word ls v) x good s is)

  all_weights : (live : List (Live M)) (rows : List (List ℕ × W)) → weighed weigh live ≡ Some rows → ((w : List ℕ) → Good (word_state act w ls v)) → AllByRecursion (λ l. Stands l.state (word_state act l.word ls v)) live
      → rows ≡ map row_at (words_of live)
  all_weights [] rows h good s = sym (some_inj [] rows h)
  all_weights (l ∷ live) rows h good s =
      let p = both_parts (with_weight l (weigh l.state)) (weighed weigh live) rows h in
      p.is ∙ (λ j. weight_at l (weigh l.state) p.head refl p.first (good l.word) s.0 j ∷ all_weights live p.tail p.rest good s.1 j)

  abbrev counts : List ℕ → Bool
  counts w = not (zero (weight (word_state act w ls v)))

  -- a word that counts has a vector that isn't zero
  counted_some : (w : List ℕ) → Good (word_state act w ls v) → counts w ≡ true → nought (word_state act w ls v) ≡ false
  counted_some w good h = by (nought (word_state act w ls v)) refl
    where
      by : (b : Bool) → nought (word_state act w ls v) ≡ b → nought (word_state act w ls v) ≡ false
      by true is = absurd (let off = weighing.nothing (word_state act w ls v) good is in let none = ap not (sym off) ∙ h in cc)
      by false is = is

  counted_rows : (live : List (Live M)) (rows : List (List ℕ × W)) → AreEnds count m act Good nought Stands ls v live → IsStrictlySortedBy word_cmp (words_of live)
      → weighed weigh live ≡ Some rows → rows_among zero rows ≡ rows_of_plan count m act weight zero ls v
  counted_rows live rows are rising fit =
      let stands = all_map (λ l. IsFull count m l.word × Stands l.state (word_state act l.word ls v)) (λ l. Stands l.state (word_state act l.word ls v)) live (λ l p. p.1) are.sound in
      let same = same_in_order (filter counts (words_of live)) (filter counts (words count m))
      (IsStrictlySortedBy-filter word_cmp counts (words_of live) rising) (IsStrictlySortedBy-filter word_cmp counts (words count m) (sorted_words count m))
      (λ q h.
      let p = filter_in counts q (words_of live) h in
      in_filter counts q (words count m) (in_words count m q (right_in count m act Good nought Stands ls v q live are.sound p.0).1) p.1)
      (λ q h.
      let p = filter_in counts q (words count m) h in
      in_filter counts q (words_of live) (are.complete q (words_in count m q p.0) (counted_some q (are.good q) p.1)) p.1) in
      ap (filter (λ row. not (zero row.1))) (all_weights live rows fit are.good stands)
      ∙ (filter_map_is row_at (λ row. not (zero row.1)) (words_of live)
      ∙ (ap (map row_at) same ∙ sym (filter_map_is row_at (λ row. not (zero row.1)) (words count m))))

module _ {M V W : Type 0} (count : ℕ) (act : Acts V) (Good : V → Type 0) (nought : V → Bool) (Stands : M → V → Type 0) (weigh : M → Option W) (weight : V → W) (zero : W → Bool)
    (weighing : IsWeighing Good nought Stands weigh weight zero) where
  pub rows_in_order : RowsInOrder count act Good nought Stands weigh weight zero
  rows_in_order m ls v live all ends rising fit = counted_rows count m act Good nought Stands weigh weight zero weighing ls v live all ends rising fit

  pub rows_of_ends : RowsOfEnds count act Good nought Stands weigh weight zero
  rows_of_ends m ls v live rows ends of =
      let s = sorted_ends count act Good nought Stands m ls v live of.sorted ends of.permutation of.order in
      of.are ∙ rows_in_order m ls v of.sorted of.all s.0 s.1 of.fit

  module _ {T : Type 0} (e : Told M T) (shapes : AreShapes e) (faithful : IsFaithful e count act Good nought Stands) where
    pub text_rows : TextRows e count act Good Stands weigh weight zero
    text_rows commands s v live rows gaps timely good stands ends of =
        rows_of_ends (measurements commands) (letters 0 commands) v live rows
        (text_ends e shapes count act Good nought Stands faithful commands s v live gaps timely good stands ends) of

    pub schedule_rows : CommuteFar e.strands act Good → ScheduleRows e count act Good Stands weigh weight zero
    schedule_rows far ranges sites schedule s v live rows apart legal timely good stands ends of =
        rows_of_ends (measurements (in_text sites)) (letters 0 (in_text sites)) v live rows
        (schedule_ends e shapes count act Good nought Stands faithful far ranges sites schedule s v live apart legal timely good stands ends) of
