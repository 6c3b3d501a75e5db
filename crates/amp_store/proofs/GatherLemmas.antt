-- What is gathered key by key.
use Rattle.std.proofs.Common.{◌≡◌, ℕ, Bool, true, false, ◌||◌, List, [], ◌∷◌, ◌++◌, Option, ◌⊎◌, inl, inr, Some, None, refl, ap, sym, ◌∙◌, subst}
use Rattle.std.specs.Prelude.{is_some, if◌then◌else◌}
use Rattle.std.specs.Str.{bytes_eq}
use Rattle.std.proofs.lemmas.List.Folds.{list_any-append}
use Rattle.std.proofs.lemmas.Slice.Eq.{bytes_eq-Decides}
use Rattle.ring_laws.specs.Ring.{Held}
use Rattle.amp_store.specs.Gathered.{kept_of, among, gathered}

pub same_key : (a x : List ℕ) → bytes_eq a x ≡ true → a ≡ x
same_key a x = (bytes_eq-Decides a x).0

pub or_true : (b c : Bool) → c ≡ true → (b || c) ≡ true
or_true true c h = refl
or_true false c h = h

pub one_of : (b c : Bool) → (b || c) ≡ true → (b ≡ true) ⊎ (c ≡ true)
one_of true c h = inl refl
one_of false c h = inr h

one_among : (a x : List ℕ) → among x (a ∷ []) ≡ bytes_eq a x
one_among a x = elim (bytes_eq a x) as (λ b. (b || false) ≡ b) [ true ↦ refl | false ↦ refl ]

pub among_more : (x a : List ℕ) (done : List (List ℕ)) → among x (done ++ a ∷ []) ≡ (among x done || bytes_eq a x)
among_more x a done = rw (list_any-append (λ y. bytes_eq y x) done (a ∷ []), one_among a x) refl

step_by : {E : Type 0} (h : Held E) (P : List ℕ → E) (a x : List ℕ) (v : E) (o n : Option E) (z d b : Bool) → v ≡ P a → h.is_zero v ≡ z → (b ≡ true → a ≡ x)
    → n ≡ (if z then o else (if b then Some v else o)) → o ≡ (if d then kept_of h (P x) else None) → n ≡ (if d || b then kept_of h (P x) else None)
step_by h P a x v o n true true b is test same new old = new ∙ old
step_by h P a x v o n true false true is test same new old = let e : P x ≡ v = ap P (sym (same refl)) ∙ sym is in rw (e, test) (new ∙ old)
step_by h P a x v o n true false false is test same new old = new ∙ old
step_by h P a x v o n false true true is test same new old = let e : P x ≡ v = ap P (sym (same refl)) ∙ sym is in rw (e, test) new
step_by h P a x v o n false true false is test same new old = new ∙ old
step_by h P a x v o n false false true is test same new old = let e : P x ≡ v = ap P (sym (same refl)) ∙ sym is in rw (e, test) new
step_by h P a x v o n false false false is test same new old = new ∙ old

-- one more key is done
pub gathered_step : {E : Type 0} (h : Held E) (P : List ℕ → E) (old new : List ℕ → Option E) (done : List (List ℕ)) (a : List ℕ) (v : E) → v ≡ P a
    → ((x : List ℕ) → new x ≡ (if h.is_zero v then old x else (if bytes_eq a x then Some v else old x)))
    → ((x : List ℕ) → old x ≡ gathered h P done x) → (x : List ℕ) → new x ≡ gathered h P (done ++ a ∷ []) x
gathered_step h P old new done a v is made before x =
    step_by h P a x v (old x) (new x) (h.is_zero v) (among x done) (bytes_eq a x) is refl (same_key a x) (made x) (before x)
    ∙ ap (λ b. if b then kept_of h (P x) else None) (sym (among_more x a done))

-- each item fits at one more key
pub fits_step : {E : Type 0} (S : List ℕ → Option E) (done : List (List ℕ)) (a : List ℕ) (v : E) → S a ≡ Some v → ((x : List ℕ) → among x done ≡ true → is_some (S x) ≡ true) → (x : List ℕ) → among x (done ++ a ∷ []) ≡ true → is_some (S x) ≡ true
fits_step {E} S done a v e before x h =
    elim (one_of (among x done) (bytes_eq a x) (sym (among_more x a done) ∙ h)) [
      | inl earlier ↦ before x earlier
      | inr here ↦ subst (λ (z : List ℕ). is_some (S z) ≡ true) (same_key a x here) (ap is_some e)
    ]
