-- What copies of entries say, and what holds of a part of them.
use Rattle.std.proofs.Common.{◌≡◌, ◌≢◌, ◌==◌, inl, inr, ℕ, zero, suc, ◌+◌, ◌<◌, Bool, true, false, List, [], ◌∷◌, ◌++◌, take, length, get_or, cond, refl, ap, sym, subst, ◌∙◌, arith}
use Rattle.std.specs.Prelude.{if◌then◌else◌}
use Rattle.std.specs.List.{AllByRecursion, AllZip, filter}
use Rattle.std.specs.List.Sorted.{IsStrictlySortedBy}
use Rattle.std.specs.Map.{keys_of}
use Rattle.std.specs.declared.cmp.Ordering.TheVariants.{Less}
use Rattle.std.proofs.lemmas.List.{get_or-map, length-map, map-append}
use Rattle.std.proofs.lemmas.List.Elements.{filter_more}
use Rattle.std.proofs.lemmas.Bool.Decides.{eqb_tells}
use Rattle.ring_laws.specs.Ring.{Held}
use Rattle.amp_store.specs.Amplitudes.{key_cmp, AreAmplitudes}
use Rattle.amp_store.specs.Places.{amplitude_in, amplitudes_in}
use Rattle.amp_store.specs.declared.entry.Entry.{Entry}

pub told_apart : (a b : ℕ) → a ≢ b → (a == b) ≡ false
told_apart a b apart = elim (eqb_tells a b) [
  | inl same ↦ absurd (apart same.1)
  | inr other ↦ other.0
]

module _ {R E : Type 0} where
  pub copies_say : (es fs : List (Entry R E)) → AllZip (λ e f. amplitude_in f ≡ amplitude_in e) es fs → amplitudes_in fs ≡ amplitudes_in es
  copies_say [] [] h = refl
  copies_say [] (f ∷ fs) h = absurd h
  copies_say (e ∷ es) [] h = absurd h
  copies_say (e ∷ es) (f ∷ fs) h = λ j. h.0 j ∷ copies_say es fs h.1 j

  -- what holds of all that the entries say holds of the one at a place
  all_said : (P : List ℕ × E → Type 0) (es : List (Entry R E)) (i : ℕ) (d : Entry R E) → AllByRecursion P (amplitudes_in es) → i < length es → P (amplitude_in (get_or es i d))
  all_said P [] i d all low = absurd (omega arith)
  all_said P (e ∷ es) zero d all low = all.0
  all_said P (e ∷ es) (suc i) d all low = all_said P es i d all.1 (omega arith)

  module _ (es : List (Entry R E)) (i : ℕ) (e : Entry R E) (low : i < length es) (is : e ≡ get_or es i e) where
    pub said_of : (P : List ℕ × E → Type 0) → AllByRecursion P (amplitudes_in es) → P (amplitude_in e)
    said_of P all = subst (λ (d : Entry R E). P (amplitude_in d)) (sym is) (all_said P es i e all low)

    -- the part with one more entry, and without it
    one_more : (test : List ℕ × E → Bool) (b : Bool) → test (amplitude_in e) ≡ b
        → filter test (take (i + 1) (amplitudes_in es)) ≡ filter test (take i (amplitudes_in es)) ++ cond b (amplitude_in e ∷ []) []
    one_more test b told =
        let here : get_or (amplitudes_in es) i (amplitude_in e) ≡ amplitude_in e = get_or-map amplitude_in es i e (amplitude_in e) low ∙ sym (ap amplitude_in is) in
        let long : length (amplitudes_in es) ≡ length es = length-map es amplitude_in in
        filter_more test (amplitudes_in es) i (amplitude_in e) (omega (arith, long))
        ∙ (ap (λ a. filter test (take i (amplitudes_in es)) ++ cond (test a) (a ∷ []) []) here
        ∙ ap (λ c. filter test (take i (amplitudes_in es)) ++ cond c (amplitude_in e ∷ []) []) told)

    pub kept_one : (test : List ℕ × E → Bool) (ks new : List (Entry R E)) (f : Entry R E) → test (amplitude_in e) ≡ true → amplitude_in f ≡ amplitude_in e → new ≡ ks ++ f ∷ []
        → amplitudes_in ks ≡ filter test (take i (amplitudes_in es)) → amplitudes_in new ≡ filter test (take (i + 1) (amplitudes_in es))
    kept_one test ks new f told same made before =
        ap amplitudes_in made
        ∙ (map-append amplitude_in ks (f ∷ [])
        ∙ ((λ j. before j ++ same j ∷ []) ∙ sym (one_more test true told)))

    pub kept_none : (test : List ℕ × E → Bool) (ks : List (Entry R E)) → test (amplitude_in e) ≡ false
        → amplitudes_in ks ≡ filter test (take i (amplitudes_in es)) → amplitudes_in ks ≡ filter test (take (i + 1) (amplitudes_in es))
    kept_none test ks told before = before ∙ (sym (end (filter test (take i (amplitudes_in es)))) ∙ sym (one_more test false told))
      where
        end : (l : List (List ℕ × E)) → l ++ [] ≡ l
        end [] = refl
        end (x ∷ l) = ap (λ m. x ∷ m) (end l)

-- a part of what is in order is in order
module _ {E : Type 0} (test : List ℕ × E → Bool) where
  keys_part : (P : List ℕ → Type 0) (es : List (List ℕ × E)) → AllByRecursion P (keys_of es) → AllByRecursion P (keys_of (filter test es))
  keys_part P [] all = tt
  keys_part P (e ∷ es) all = pick (test e) (keys_part P es all.1)
    where
      pick : (b : Bool) → AllByRecursion P (keys_of (filter test es)) → AllByRecursion P (keys_of (if b then e ∷ filter test es else filter test es))
      pick true rest = (all.0, rest)
      pick false rest = rest

  sorted_part : (es : List (List ℕ × E)) → IsStrictlySortedBy key_cmp (keys_of es) → IsStrictlySortedBy key_cmp (keys_of (filter test es))
  unfolding IsStrictlySortedBy
  sorted_part [] s = tt
  sorted_part (e ∷ es) s = pick (test e) (keys_part (λ k. key_cmp e.0 k ≡ Less) es s.0) (sorted_part es s.1)
    where
      pick : (b : Bool) → AllByRecursion (λ k. key_cmp e.0 k ≡ Less) (keys_of (filter test es)) → IsStrictlySortedBy key_cmp (keys_of (filter test es))
          → IsStrictlySortedBy key_cmp (keys_of (if b then e ∷ filter test es else filter test es))
      pick true low rest = (low, rest)
      pick false low rest = rest

  all_part : (P : List ℕ × E → Type 0) (es : List (List ℕ × E)) → AllByRecursion P es → AllByRecursion P (filter test es)
  all_part P [] all = tt
  all_part P (e ∷ es) all = pick (test e) (all_part P es all.1)
    where
      pick : (b : Bool) → AllByRecursion P (filter test es) → AllByRecursion P (if b then e ∷ filter test es else filter test es)
      pick true rest = (all.0, rest)
      pick false rest = rest

  pub amplitudes_part : (held : Held E) (es : List (List ℕ × E)) → AreAmplitudes held es → AreAmplitudes held (filter test es)
  amplitudes_part held es is = record {
    ordered = sorted_part es is.ordered;
    nonzero = all_part (λ e. held.is_zero e.1 ≡ false) es is.nonzero;
  }
