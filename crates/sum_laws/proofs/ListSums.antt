-- Sums over the words of so many labels, and over the rows among them.
use Rattle.std.proofs.Common.{◌≡◌, ℕ, zero, suc, Bool, true, false, not, List, [], ◌∷◌, ◌++◌, map, refl, ap, sym, ◌∙◌}
use Rattle.std.specs.Prelude.{IsTrue, if◌then◌else◌}
use Rattle.std.specs.List.{filter, flat_map}
use Rattle.std.proofs.lemmas.Grind.{flat_map-append}
use Rattle.std.proofs.lemmas.List.{append-nil}
use Rattle.ring_laws.specs.Ring.{Ring, Held, RingLaws}
use Rattle.ring_laws.specs.Sums.{total, sum_over}
use Rattle.ring_laws.proofs.SumLemmas as S
use Rattle.comb_laws.specs.Paths.{labels}
use Rattle.comb_laws.specs.Plans.{words}

module _ {E : Type 0} {R : Ring E} {H : Held E} (laws : RingLaws R H) where
  sum_over-map : {A B : Type 0} (f : B → E) (g : A → B) (xs : List A) → sum_over R f (map g xs) ≡ sum_over R (λ x. f (g x)) xs
  sum_over-map f g [] = refl
  sum_over-map f g (x ∷ xs) = ap (R.sum (f (g x))) (sum_over-map f g xs)

  -- lists by label, one after another
  sum_over-labels : {A : Type 0} (f : A → E) (g : ℕ → List A) (n : ℕ) → sum_over R f (flat_map g (labels n)) ≡ total R n (λ q. sum_over R f (g q))
  sum_over-labels f g zero = refl
  sum_over-labels f g (suc n) =
      ap (sum_over R f) (flat_map-append g (labels n) (n ∷ []))
      ∙ (S.sum_over-append laws f (flat_map g (labels n)) (g n ++ [])
      ∙ (λ j. R.sum (sum_over-labels f g n j) (sum_over R f (append-nil (g n) j))))

  -- the words by their first label
  pub words_by_first : (f : List ℕ → E) (count m : ℕ)
      → sum_over R f (words count (suc m)) ≡ total R count (λ q. sum_over R (λ word. f (q ∷ word)) (words count m))
  words_by_first f count m =
      sum_over-labels f (λ q. map (λ word. q ∷ word) (words count m)) count
      ∙ (λ j. total R count (λ q. sum_over-map f (λ word. q ∷ word) (words count m) j))

  -- items with their weights, where these aren't zero
  abbrev pub kept : {A : Type 0} → (A → E) → List A → List (A × E)
  kept {A} f xs = filter (λ (row : A × E). not (H.is_zero row.1)) (map (λ x. (x, f x)) xs)

  -- the others add nothing
  pub kept_sum : {A : Type 0} (f : A → E) → ((x : A) → IsTrue (R.member (f x))) → (xs : List A)
      → sum_over R (λ (row : A × E). row.1) (kept f xs) ≡ sum_over R f xs
  kept_sum f members [] = refl
  kept_sum {A} f members (x ∷ xs) = by (H.is_zero (f x)) refl (kept_sum f members xs)
    where
      by : (b : Bool) → H.is_zero (f x) ≡ b → sum_over R (λ (row : A × E). row.1) (kept f xs) ≡ sum_over R f xs
          → sum_over R (λ (row : A × E). row.1) (if not b then (x, f x) ∷ kept f xs else kept f xs) ≡ R.sum (f x) (sum_over R f xs)
      by true none same =
          same ∙ (sym (S.zero-sum laws (sum_over R f xs) (S.sum_over_is laws f xs)) ∙ ap (λ y. R.sum y (sum_over R f xs)) (sym ((laws.is_zero_is (f x) (members x)).0 none)))
      by false some same = ap (R.sum (f x)) same
