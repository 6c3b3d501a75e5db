-- What is among labels below a count, and among what a list is made of.
use Rattle.std.proofs.Common.{◌≡◌, ℕ, zero, suc, ◌+◌, ◌<◌, ◌≤◌, List, [], ◌∷◌, ◌++◌, Bool, true, false, map, filter, refl, sym, ap, subst, arith, inl, inr, if◌then◌else◌}
use Rattle.std.specs.Prelude.{◌⊎◌}
use Rattle.std.specs.List.{flat_map}
use Rattle.std.proofs.lemmas.Bool.{cases_eq}
use Rattle.symbol_table.specs.Index.{AreSixLabels, AreThreeLabels, v_index}
use Rattle.symbol_table.specs.declared.index.FIndex.{FIndex}
use Rattle.symbol_table.specs.declared.index.VIndex.{VIndex}
use Rattle.category_text.specs.Canonical.{counting, vertices, sixes, behind}

abbrev pub In : {A : Type 0} → A → List A → Type 0
In x [] = ⊥
In x (y ∷ ys) = (y ≡ x) ⊎ In x ys

pub in_left : {A : Type 0} (x : A) (xs ys : List A) → In x xs → In x (xs ++ ys)
in_left x [] ys h = absurd h
in_left x (y ∷ xs) ys (inl e) = inl e
in_left x (y ∷ xs) ys (inr h) = inr (in_left x xs ys h)

pub in_right : {A : Type 0} (x : A) (xs ys : List A) → In x ys → In x (xs ++ ys)
in_right x [] ys h = h
in_right x (y ∷ xs) ys h = inr (in_right x xs ys h)

pub in_map : {A B : Type 0} (g : A → B) (x : A) (xs : List A) → In x xs → In (g x) (map g xs)
in_map g x [] h = absurd h
in_map g x (y ∷ xs) (inl e) = inl (ap g e)
in_map g x (y ∷ xs) (inr h) = inr (in_map g x xs h)

pub in_filter : {A : Type 0} (p : A → Bool) (x : A) (xs : List A) → p x ≡ true → In x xs → In x (filter p xs)
in_filter p x [] e h = absurd h
in_filter p x (y ∷ xs) e (inl same) = go (p y) refl
  where
    go : (b : Bool) → p y ≡ b → In x (if b then y ∷ filter p xs else filter p xs)
    go true f = inl same
    go false f = absurd (let g : p y ≡ p x = ap p same in cc)
in_filter p x (y ∷ xs) e (inr h) = go (p y) (in_filter p x xs e h)
  where
    go : (b : Bool) → In x (filter p xs) → In x (if b then y ∷ filter p xs else filter p xs)
    go true later = inr later
    go false later = later

in_flat : {A B : Type 0} (f : A → List B) (x : A) (y : B) (xs : List A) → In x xs → In y (f x) → In y (flat_map f xs)
in_flat f x y [] h g = absurd h
in_flat f x y (z ∷ xs) (inl e) g = in_left y (f z) (flat_map f xs) (subst (λ w. In y (f w)) (sym e) g)
in_flat f x y (z ∷ xs) (inr h) g = in_right y (f z) (flat_map f xs) (in_flat f x y xs h g)

in_counting : (from k c : ℕ) → from ≤ c → c < from + k → In c (counting from k)
in_counting from zero c low high = absurd (omega arith)
in_counting from (suc k) c low high = go (cases_eq from c) (λ l. in_counting (from + 1) k c l (omega arith))
  where
    go : (from ≡ c) ⊎ ((from ≡ c) → ⊥) → (from + 1 ≤ c → In c (counting (from + 1) k)) → In c (counting from (suc k))
    go (inl e) later = inl e
    go (inr ne) later = inr (later (omega arith))

pub below : (n c : ℕ) → c < n → In c (counting 0 n)
below n c lt = in_counting 0 n c (omega arith) (omega arith)

pub in_vertices : (n : ℕ) (t : VIndex) → AreThreeLabels n t.a t.b t.c → In t (vertices n)
in_vertices n t (a, b, c) =
    in_flat (λ (a : ℕ). flat_map (λ (b : ℕ). map (λ (c : ℕ). v_index a b c) (counting 0 n)) (counting 0 n)) t.a t (counting 0 n) (below n t.a a)
    (in_flat (λ (b : ℕ). map (λ (c : ℕ). v_index t.a b c) (counting 0 n)) t.b t (counting 0 n) (below n t.b b)
    (in_map (λ (c : ℕ). v_index t.a t.b c) t.c (counting 0 n) (below n t.c c)))

pub in_sixes : (n : ℕ) (t : FIndex) → AreSixLabels n t.a t.b t.c t.d t.e t.f → In t (sixes n)
in_sixes n t (a, b, c, d, e, f) =
    in_flat (λ (x : VIndex). map (behind x) (vertices n)) (v_index t.a t.b t.c) t (vertices n) (in_vertices n (v_index t.a t.b t.c) (a, b, c))
    (in_map (behind (v_index t.a t.b t.c)) (v_index t.d t.e t.f) (vertices n) (in_vertices n (v_index t.d t.e t.f) (d, e, f)))
