-- Amplitudes with other numbers at the same keys, put one after another.
use Rattle.std.proofs.Common.{◌≡◌, ℕ, zero, suc, ◌+◌, Bool, true, false, List, [], ◌∷◌, ◌++◌, map, take, Option, Some, None, refl, ap, sym, ◌∙◌, subst, arith}
use Rattle.std.specs.Prelude.{slice_get, if◌then◌else◌, ◌&&◌}
use Rattle.std.specs.BTreeMap.{insert_entry}
use Rattle.std.specs.List.{AllByRecursion, list_all}
use Rattle.std.specs.List.Sorted.{IsStrictlySortedBy}
use Rattle.std.specs.Map.{keys_of}
use Rattle.std.specs.Ordering.{match_ordering}
use Rattle.std.specs.declared.cmp.Ordering.TheVariants.{Less, Greater}
use Rattle.std.proofs.lemmas.List.{map-append}
use Rattle.ring_laws.specs.Ring.{Held, Ring}
use Rattle.ring_laws.specs.Stated.{product_at}
use Rattle.ring_laws.proofs.SumLemmas as S
use Rattle.ring_laws.proofs.StatedLemmas.{some_inj}
use Rattle.amp_store.specs.Amplitudes.{key_cmp, AreAmplitudes}
use Rattle.amp_store.proofs.EditLemmas.{turned_round}
use Rattle.recouple.proofs.AdmissibleLemmas.{and_true}
use Rattle.recouple.proofs.EndLemmas.{take_one}

-- a key after all others
insert_last : {E : Type 0} (es : List (List ℕ × E)) (key : List ℕ) (v : E) → AllByRecursion (λ d. key_cmp key d.0 ≡ Greater) es → insert_entry key_cmp es key v ≡ es ++ (key, v) ∷ []
insert_last [] key v h = refl
insert_last (e ∷ es) key v h =
    ap (λ o. match_ordering o ((key, v) ∷ e ∷ es) ((e.0, v) ∷ es) (e ∷ insert_entry key_cmp es key v)) h.0 ∙ ap (λ l. e ∷ l) (insert_last es key v h.1)

key_at : {E : Type 0} (P : List ℕ → Type 0) (es : List (List ℕ × E)) (i : ℕ) (e : List ℕ × E) → AllByRecursion P (keys_of es) → slice_get es i ≡ Some e → P e.0
key_at P [] i e all h = absurd (cc)
key_at P (x ∷ xs) zero e all h = subst (λ (d : List ℕ × _). P d.0) (some_inj x e h) all.0
key_at P (x ∷ xs) (suc i) e all h = key_at P xs i e all.1 h

module _ {E : Type 0} (g : List ℕ × E → E) where
  abbrev pub with_number : List ℕ × E → List ℕ × E
  with_number e = (e.0, g e)

  before : (es : List (List ℕ × E)) (i : ℕ) (e : List ℕ × E) → IsStrictlySortedBy key_cmp (keys_of es) → slice_get es i ≡ Some e → AllByRecursion (λ d. key_cmp e.0 d.0 ≡ Greater) (map with_number (take i es))
  unfolding IsStrictlySortedBy
  before [] i e s h = absurd (cc)
  before (x ∷ xs) zero e s h = tt
  before (x ∷ xs) (suc i) e s h = (turned_round x.0 e.0 Less (key_at (λ b. key_cmp x.0 b ≡ Less) xs i e s.0 h), before xs i e s.1 h)

  -- one more number
  pub put_next : (es : List (List ℕ × E)) (i : ℕ) (e : List ℕ × E) (old new : List (List ℕ × E)) (v : E) → IsStrictlySortedBy key_cmp (keys_of es) → slice_get es i ≡ Some e
      → old ≡ map with_number (take i es) → v ≡ g e → new ≡ insert_entry key_cmp old e.0 v → new ≡ map with_number (take (i + 1) es)
  put_next es i e old new v s h was is made =
      made
      ∙ ((λ j. insert_entry key_cmp (was j) e.0 (is j))
      ∙ (insert_last (map with_number (take i es)) e.0 (g e) (before es i e s h)
      ∙ (sym (map-append with_number (take i es) (e ∷ [])) ∙ ap (map with_number) (sym (take_one es i e h)))))

  keys_same : (es : List (List ℕ × E)) → keys_of (map with_number es) ≡ keys_of es
  keys_same [] = refl
  keys_same (e ∷ es) = ap (λ l. e.0 ∷ l) (keys_same es)

  -- numbers that aren't zero
  pub are_amplitudes : {H : Held E} (es : List (List ℕ × E)) → AreAmplitudes H es → ((i : ℕ) (e : List ℕ × E) → slice_get es i ≡ Some e → H.is_zero (g e) ≡ false) → AreAmplitudes H (map with_number es)
  are_amplitudes {H} es h some = record { ordered = subst (IsStrictlySortedBy key_cmp) (sym (keys_same es)) h.ordered; nonzero = each es some }
    where
      each : (es : List (List ℕ × E)) → ((i : ℕ) (e : List ℕ × E) → slice_get es i ≡ Some e → H.is_zero (g e) ≡ false) → AllByRecursion (λ e. H.is_zero e.1 ≡ false) (map with_number es)
      each [] some = tt
      each (e ∷ es) some = (some 0 e refl, each es (λ i d h. some (suc i) d h))

-- whether a test holds of those that are taken, and of one more
pub all_next : {A : Type 0} (p : A → Bool) (xs : List A) (i : ℕ) (x : A) → slice_get xs i ≡ Some x → list_all p (take i xs) ≡ true → p x ≡ true → list_all p (take (i + 1) xs) ≡ true
all_next p [] i x h all is = absurd (cc)
all_next p (y ∷ ys) zero x h all is = S.and_yes _ _ (ap p (some_inj y x h) ∙ is) refl
all_next p (y ∷ ys) (suc i) x h all is =
    let parts = and_true (p y) (list_all p (take i ys)) all in
    let up : suc i + 1 ≡ suc (i + 1) = omega arith in
    ap (λ n. list_all p (take n (y ∷ ys))) up ∙ S.and_yes _ _ parts.0 (all_next p ys i x h parts.1 is)

-- it fails of all where it fails of one
pub all_fails : {A : Type 0} (p : A → Bool) (xs : List A) (i : ℕ) (x : A) → slice_get xs i ≡ Some x → p x ≡ false → list_all p xs ≡ false
all_fails p [] i x h off = absurd (cc)
all_fails p (y ∷ ys) zero x h off = ap (λ b. b && list_all p ys) (ap p (some_inj y x h) ∙ off)
all_fails p (y ∷ ys) (suc i) x h off = ap (λ b. p y && b) (all_fails p ys i x h off) ∙ none (p y)
  where
    none : (b : Bool) → (b && false) ≡ false
    none true = refl
    none false = refl

-- a product that is given fits, and one that isn't doesn't
pub fits_given : {E : Type 0} (r : Ring E) (x y w : E) → product_at r x y ≡ Some w → r.product_fits x y ≡ true
fits_given {E} r x y w e = by (r.product_fits x y) refl e
  where
    by : (b : Bool) → r.product_fits x y ≡ b → (if b then Some (r.product x y) else None) ≡ Some w → r.product_fits x y ≡ true
    by true h e = h
    by false h e = absurd (cc)

pub fits_not : {E : Type 0} (r : Ring E) (x y : E) → product_at r x y ≡ None → r.product_fits x y ≡ false
fits_not {E} r x y e = by (r.product_fits x y) refl e
  where
    none : Option E
    none = None

    by : (b : Bool) → r.product_fits x y ≡ b → (if b then Some (r.product x y) else None) ≡ none → r.product_fits x y ≡ false
    by true h e = absurd (cc)
    by false h e = h
