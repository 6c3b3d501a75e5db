-- Sorted live words are those in the order of lists of labels.
use Rattle.std.proofs.Common.{◌≡◌, ℕ, Bool, true, false, inl, List, [], ◌∷◌, ◌++◌, refl, ap, sym, ◌∙◌}
use Rattle.std.specs.Prelude.{if◌then◌else◌, ◌||◌}
use Rattle.std.specs.Str.{bytes_eq}
use Rattle.std.specs.List.{AllByRecursion, filter, flat_map, list_any}
use Rattle.std.proofs.lemmas.List.Elements.{recursion_from_All, All-from_recursion}
use Rattle.std.proofs.lemmas.List.Kept.{IsStrictlySortedBy-filter}
use Rattle.std.proofs.lemmas.List.Sorted.{All-permutation, IsPermutation-map}
use Rattle.std.proofs.lemmas.Slice.Eq.{bytes_eq-Decides}
use Rattle.word_runs.specs.Runs.{Live}
use Rattle.comb_laws.specs.Plans.{words}
use Rattle.comb_laws.specs.Words.{Acts}
use Rattle.run_laws.specs.Meaning.{AreDistinct, words_of}
use Rattle.run_laws.specs.Rows.{word_cmp}
use Rattle.run_laws.proofs.OrderLemmas.{any_in, filter_in, in_any, in_filter, in_permutation, in_words, out_permutation, right_in, same_in_order, sorted_ends, sorted_words}
use Rattle.outcome_rows.specs.WordEnds.{SortedInWordOrder}
use Rattle.outcome_rows.specs.WordOrder.{with_word}

other_word : (a b : List ℕ) → (a ≡ b → ⊥) → bytes_eq a b ≡ false
other_word a b apart = by (bytes_eq a b) refl
  where
    by : (t : Bool) → bytes_eq a b ≡ t → bytes_eq a b ≡ false
    by true is = absurd (apart ((bytes_eq-Decides a b).0 is))
    by false is = is

module _ {M : Type 0} where
  -- those of a list that pass, one after another
  next_with : (x : Live M) (xs : List (Live M)) (word : List ℕ) (b : Bool) → bytes_eq x.word word ≡ b → with_word (x ∷ xs) word ≡ (if b then x ∷ with_word xs word else with_word xs word)
  next_with x xs word b is = ap (λ t. if t then x ∷ with_word xs word else with_word xs word) is

  -- a word that no live word has
  none_with : (xs : List (Live M)) (word : List ℕ) → list_any (λ k. bytes_eq word k) (words_of xs) ≡ false → with_word xs word ≡ []
  none_with [] word h = refl
  none_with (x ∷ xs) word h =
      next_with x xs word false (other_word x.word word (λ same. absurd (let there = in_any word (words_of (x ∷ xs)) (inl (sym same)) in cc)))
      ∙ none_with xs word (rest (bytes_eq word x.word) h)
    where
      rest : (b : Bool) → (b || list_any (λ k. bytes_eq word k) (words_of xs)) ≡ false → list_any (λ k. bytes_eq word k) (words_of xs) ≡ false
      rest true e = absurd (cc)
      rest false e = e

  first_alone : (x : Live M) (xs : List (Live M)) → AllByRecursion (λ y. x.word ≡ y → ⊥) (words_of xs) → with_word xs x.word ≡ []
  first_alone x [] d = refl
  first_alone x (y ∷ ys) d = next_with y ys x.word false (other_word y.word x.word (λ same. d.0 (sym same))) ∙ first_alone x ys d.1

  later_alone : (x : Live M) (xs ys : List (Live M)) → AllByRecursion (λ y. x.word ≡ y → ⊥) (words_of ys) → AllByRecursion (λ l. with_word xs l.word ≡ l ∷ []) ys → AllByRecursion (λ l. with_word (x ∷ xs) l.word ≡ l ∷ []) ys
  later_alone x xs [] d h = tt
  later_alone x xs (y ∷ ys) d h = (next_with x xs y.word false (other_word x.word y.word d.0) ∙ h.0, later_alone x xs ys d.1 h.1)

  -- where no word stands twice, each live word is the only one that has its word
  each_alone : (live : List (Live M)) → AreDistinct (words_of live) → AllByRecursion (λ l. with_word live l.word ≡ l ∷ []) live
  each_alone [] d = tt
  each_alone (x ∷ xs) d = (
    next_with x xs x.word true ((bytes_eq-Decides x.word x.word).1 refl) ∙ ap (λ l. x ∷ l) (first_alone x xs d.0),
    later_alone x xs xs d.0 (each_alone xs d.1),
  )

  -- words without a live word add nothing
  flat_kept : (live : List (Live M)) (ws : List (List ℕ)) → flat_map (with_word live) ws ≡ flat_map (with_word live) (filter (λ w. list_any (λ k. bytes_eq w k) (words_of live)) ws)
  flat_kept live [] = refl
  flat_kept live (w ∷ ws) = by (list_any (λ k. bytes_eq w k) (words_of live)) refl (flat_kept live ws)
    where
      by : (b : Bool) → list_any (λ k. bytes_eq w k) (words_of live) ≡ b → flat_map (with_word live) ws ≡ flat_map (with_word live) (filter (λ v. list_any (λ k. bytes_eq v k) (words_of live)) ws)
          → with_word live w ++ flat_map (with_word live) ws ≡ flat_map (with_word live) (if b then w ∷ filter (λ v. list_any (λ k. bytes_eq v k) (words_of live)) ws else filter (λ v. list_any (λ k. bytes_eq v k) (words_of live)) ws)
      by true is rest = ap (λ l. with_word live w ++ l) rest
      by false is rest = ap (λ l. l ++ flat_map (with_word live) ws) (none_with live w is) ∙ rest

  -- each of its own word
  flat_own : (live sorted : List (Live M)) → AllByRecursion (λ l. with_word live l.word ≡ l ∷ []) sorted → flat_map (with_word live) (words_of sorted) ≡ sorted
  flat_own live [] h = refl
  flat_own live (l ∷ sorted) h = (λ j. h.0 j ++ flat_own live sorted h.1 j)

pub sorted_in_word_order : {M V : Type 0} (count : ℕ) (act : Acts V) (Good : V → Type 0) (nought : V → Bool) (Stands : M → V → Type 0) → SortedInWordOrder count act Good nought Stands
sorted_in_word_order {M} {V} count act Good nought Stands m ls v live sorted are of =
    let test = λ (w : List ℕ). list_any (λ k. bytes_eq w k) (words_of live) in
    let ends = sorted_ends count act Good nought Stands m ls v live sorted are of.permutation of.order in
    let moved = IsPermutation-map (λ (l : Live M). l.word) live sorted of.permutation in
    let same = same_in_order (words_of sorted) (filter test (words count m)) ends.1 (IsStrictlySortedBy-filter word_cmp test (words count m) (sorted_words count m))
    (λ q h.
    let there = in_permutation (words_of live) (words_of sorted) moved q h in
    in_filter test q (words count m) (in_words count m q (right_in count m act Good nought Stands ls v q live are.sound there).1) (in_any q (words_of live) there))
    (λ q h. out_permutation (words_of live) (words_of sorted) moved q (any_in q (words_of live) (filter_in test q (words count m) h).1)) in
    let own = λ (l : Live M). with_word live l.word ≡ l ∷ [] in
    sym (flat_own live sorted (recursion_from_All own sorted (All-permutation own live sorted of.permutation (All-from_recursion own live (each_alone live are.distinct)))))
    ∙ (ap (flat_map (with_word live)) same ∙ sym (flat_kept live (words count m)))
