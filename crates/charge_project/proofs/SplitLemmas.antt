-- The parts of a state, one after another.
use Rattle.std.proofs.Common.{◌≡◌, ◌≢◌, ℕ, zero, suc, ◌+◌, ◌-◌, ◌<◌, Bool, true, false, List, [], ◌∷◌, ◌++◌, map, Some, length, refl, ap, sym, ◌∙◌, arith, slice_index, inl, inr}
use Rattle.std.specs.Prelude.{if◌then◌else◌, ◌==◌, slice_get}
use Rattle.std.specs.List.{AllByRecursion, filter}
use Rattle.std.proofs.lemmas.Bool.Decides.{eqb_tells}
use Rattle.std.proofs.lemmas.List.{map-append}
use Rattle.std.proofs.lemmas.List.Elements.{filter-append}
use Rattle.ring_laws.proofs.SumLemmas as S
use Rattle.ring_laws.specs.Ring.{Ring}
use Rattle.comb_laws.specs.Paths.{labels}
use Rattle.recouple.specs.Raises.{AreOver}
use Rattle.recouple.specs.States.{State}
use Rattle.recouple.proofs.EndLemmas.{entry_has}
use Rattle.charge_project.specs.Splits.{any_left, part_at, parts_below}

all_from : {A : Type 0} (P : A → Type 0) (xs : List A) → ((i : ℕ) (x : A) → slice_get xs i ≡ Some x → P x) → AllByRecursion P xs
all_from P [] h = tt
all_from P (x ∷ xs) h = (h 0 x refl, all_from P xs (λ i y e. h (suc i) y e))

-- each key has the place of a gap
pub keys_reach : {E : Type 0} (r : Ring E) (count n k : ℕ) (es : List (List ℕ × E)) → AreOver r count n es → 0 < k → k < n → AllByRecursion (λ e. k - 1 < length e.0) es
keys_reach r count n k es over low high =
    all_from _ es (λ i e is.
    let has = entry_has es i e is in
    let key = over.keys e.0 has.0 has.1 in
    omega (arith, key.long))

pub any_is : {A : Type 0} (xs : List A) → 0 < length xs → any_left xs ≡ true
any_is [] h = absurd (omega arith)
any_is (x ∷ xs) h = refl

pub none_is : {A : Type 0} (xs : List A) → length xs ≡ 0 → any_left xs ≡ false
none_is [] h = refl
none_is (x ∷ xs) h = absurd (omega (arith, h))

module _ {E : Type 0} (k : ℕ) (s : State E) where
  -- one more label
  pub parts_more : (n : ℕ) (old new : List (ℕ × State E)) → old ≡ parts_below k s n → new ≡ old ++ (if any_left (State.amps (part_at k s n)) then (n, part_at k s n) ∷ [] else []) → new ≡ parts_below k s (n + 1)
  parts_more n old new before made =
      let up : suc n ≡ n + 1 = omega arith in
      made ∙ (ap (λ l. l ++ (if any_left (State.amps (part_at k s n)) then (n, part_at k s n) ∷ [] else [])) before
      ∙ (sym (filter-append (λ (p : ℕ × State E). any_left (State.amps p.1)) (map (λ q. (q, part_at k s q)) (labels n)) ((n, part_at k s n) ∷ []))
      ∙ (ap (filter (λ (p : ℕ × State E). any_left (State.amps p.1))) (sym (map-append (λ q. (q, part_at k s q)) (labels n) (n ∷ []))) ∙ ap (parts_below k s) up)))

  both_none : {A : Type 0} (xs : List A) (b : Bool) (y : A) → xs ++ (if b then y ∷ [] else []) ≡ [] → (xs ≡ []) × (b ≡ false)
  both_none [] true y e = absurd (cc)
  both_none [] false y e = (refl, refl)
  both_none (x ∷ xs) b y e = absurd (cc)

  -- a label that occurs is among the parts
  pub some_part : (n q : ℕ) → q < n → any_left (State.amps (part_at k s q)) ≡ true → parts_below k s n ≡ [] → ⊥
  some_part zero q low there none = absurd (omega arith)
  some_part (suc n) q low there none =
      let up : n + 1 ≡ suc n = omega arith in
      let parts = both_none (parts_below k s n) (any_left (State.amps (part_at k s n))) (n, part_at k s n)
      (parts_more n (parts_below k s n) _ refl refl ∙ (ap (parts_below k s) up ∙ none)) in
      elim (eqb_tells q n) [
        | inl last ↦ let clash : true ≡ false = sym there ∙ (ap (λ m. any_left (State.amps (part_at k s m))) last.1 ∙ parts.1) in absurd (cc)
        | inr other ↦ some_part n q (omega (arith, other.1)) there parts.0
      ]

-- the first entry's label occurs
pub first_occurs : {E : Type 0} (k : ℕ) (es : List (List ℕ × E)) (e : List ℕ × E) → any_left (filter (λ f. slice_index f.0 (k - 1) == slice_index e.0 (k - 1)) (e ∷ es)) ≡ true
first_occurs {E} k es e = rw (S.test_true (slice_index e.0 (k - 1)) (slice_index e.0 (k - 1)) refl) refl

pub some_parts : {E : Type 0} (r : Ring E) (count n k : ℕ) (s : State E) → AreOver r count n s.amps → 0 < k → k < n → s.amps ≢ [] → parts_below k s count ≢ []
some_parts {E} r count n k s over low high some none = by_first s.amps refl
  where
    by_first : (es : List (List ℕ × E)) → s.amps ≡ es → ⊥
    by_first [] e = some e
    by_first (d ∷ ds) e =
        let has = entry_has s.amps 0 d (ap (λ l. slice_get l 0) e) in
        let key = over.keys d.0 has.0 has.1 in
        let label : slice_index d.0 (k - 1) < count = key.labels (k - 1) 0 (omega (arith, key.long)) in
        some_part k s count (slice_index d.0 (k - 1)) label
        (ap (λ es. any_left (filter (λ f. slice_index f.0 (k - 1) == slice_index d.0 (k - 1)) es)) e ∙ first_occurs k ds d) none
