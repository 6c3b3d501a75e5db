-- What is among lists of labels.
use Rattle.std.proofs.Common.{◌≡◌, ℕ, zero, suc, ◌<◌, Bool, true, false, ◌||◌, List, [], ◌∷◌, map, refl, ap, sym, ◌∙◌, subst, arith, inl, inr}
use Rattle.std.specs.Prelude.{if◌then◌else◌, ◌&&◌}
use Rattle.std.specs.Str.{bytes_eq}
use Rattle.std.specs.List.{list_all, list_any, filter, flat_map}
use Rattle.std.proofs.lemmas.List.Folds.{list_any-append}
use Rattle.std.proofs.lemmas.Bool.Decides.{leb_tells}
use Rattle.std.proofs.lemmas.Slice.Eq.{bytes_eq-Decides}
use Rattle.amp_store.specs.Gathered.{among}
use Rattle.amp_store.proofs.EditLemmas.{eq_turned}
use Rattle.amp_store.proofs.GatherLemmas.{or_true, same_key}
use Rattle.amp_store.proofs.OrderLemmas.{CountsUp, made_more}

or_left : (b c : Bool) → b ≡ true → (b || c) ≡ true
or_left true c h = refl
or_left false c h = absurd (cc)

-- what is among the items of one label is among those of all labels below a number
pub among_labels : (below : ℕ → List ℕ) → CountsUp below → (y : List ℕ) (f : ℕ → List (List ℕ)) (n x : ℕ) → x < n → among y (f x) ≡ true → among y (flat_map f (below n)) ≡ true
among_labels below up y f zero x low h = absurd (omega arith)
among_labels below up y f (suc n) x low h =
    ap (among y) (made_more below up f n)
    ∙ (list_any-append (λ z. bytes_eq z y) (flat_map f (below n)) (f n)
    ∙ elim (leb_tells n x) [
      | inl last ↦ let same : x ≡ n = omega arith in or_true (among y (flat_map f (below n))) (among y (f n)) (subst (λ (m : ℕ). among y (f m) ≡ true) same h)
      | inr lower ↦ or_left (among y (flat_map f (below n))) (among y (f n)) (among_labels below up y f n x (omega arith) h)
    ])

pub among_put : (x : ℕ) (y : List ℕ) (ys : List (List ℕ)) → among y ys ≡ true → among (x ∷ y) (map (λ xs. x ∷ xs) ys) ≡ true
among_put x y [] h = absurd (cc)
among_put x y (z ∷ ys) h = pick (bytes_eq z y) refl h (among_put x y ys)
  where
    pick : (b : Bool) → bytes_eq z y ≡ b → (b || among y ys) ≡ true → (among y ys ≡ true → among (x ∷ y) (map (λ xs. x ∷ xs) ys) ≡ true) → (bytes_eq (x ∷ z) (x ∷ y) || among (x ∷ y) (map (λ xs. x ∷ xs) ys)) ≡ true
    pick true e h later = or_left (bytes_eq (x ∷ z) (x ∷ y)) _ ((bytes_eq-Decides (x ∷ z) (x ∷ y)).1 (ap (λ w. x ∷ w) (same_key z y e)))
    pick false e h later = or_true (bytes_eq (x ∷ z) (x ∷ y)) _ (later h)

pub any_turned : (q : List ℕ) (xs : List (List ℕ)) → list_any (λ k. bytes_eq q k) xs ≡ among q xs
any_turned q [] = refl
any_turned q (x ∷ xs) = λ j. eq_turned q x j || any_turned q xs j

pub and_false_right : (a : Bool) → (a && false) ≡ false
and_false_right true = refl
and_false_right false = refl

-- an item is among those that pass a test where it is among all and passes
pub filter_any : (test : List ℕ → Bool) (q : List ℕ) (xs : List (List ℕ)) → list_any (λ k. bytes_eq q k) (filter test xs) ≡ (list_any (λ k. bytes_eq q k) xs && test q)
filter_any test q [] = refl
filter_any test q (x ∷ xs) = pick (test x) (bytes_eq q x) refl refl (filter_any test q xs)
  where
    pick : (t b : Bool) → test x ≡ t → bytes_eq q x ≡ b → list_any (λ k. bytes_eq q k) (filter test xs) ≡ (list_any (λ k. bytes_eq q k) xs && test q)
        → list_any (λ k. bytes_eq q k) (if t then x ∷ filter test xs else filter test xs) ≡ ((b || list_any (λ k. bytes_eq q k) xs) && test q)
    pick true true passes same rest = rw same (sym (ap test (same_key q x same) ∙ passes))
    pick true false passes other rest = rw other rest
    pick false true fails same rest =
        rest ∙ (ap (λ b. list_any (λ k. bytes_eq q k) xs && b) (ap test (same_key q x same) ∙ fails)
        ∙ (and_false_right (list_any (λ k. bytes_eq q k) xs) ∙ sym (ap test (same_key q x same) ∙ fails)))
    pick false false fails other rest = rest

-- a test that fails at one item fails for all
pub one_fails : (test : List ℕ → Bool) (x : List ℕ) (xs : List (List ℕ)) → among x xs ≡ true → test x ≡ false → list_all test xs ≡ false
one_fails test x [] h fails = absurd (cc)
one_fails test x (y ∷ xs) h fails = pick (bytes_eq y x) refl h (one_fails test x xs)
  where
    pick : (b : Bool) → bytes_eq y x ≡ b → (b || among x xs) ≡ true → (among x xs ≡ true → test x ≡ false → list_all test xs ≡ false) → (test y && list_all test xs) ≡ false
    pick true e h later = ap (λ b. b && list_all test xs) (ap test (same_key y x e) ∙ fails)
    pick false e h later = both (test y) (later h fails)
      where
        both : (b : Bool) {d : Bool} → d ≡ false → (b && d) ≡ false
        both true e = e
        both false e = refl

-- a test that all items pass
pub all_pass : {A : Type 0} (test : A → Bool) (xs : List A) → ((x : A) → test x ≡ true) → list_all test xs ≡ true
all_pass test [] h = refl
all_pass test (x ∷ xs) h = rw (h x) (all_pass test xs h)
