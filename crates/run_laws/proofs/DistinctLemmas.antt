-- Lists in which nothing stands twice.
use Rattle.std.proofs.Common.{◌≡◌, inl, inr, List, [], ◌∷◌, ◌++◌, map, refl, ap, sym, ◌∙◌}
use Rattle.std.specs.List.{AllByRecursion, flat_map}
use Rattle.std.proofs.lemmas.List.{map-append}
use Rattle.word_runs.proofs.EachLemmas.{all_append, all_map}
use Rattle.run_laws.specs.Meaning.{IsIn, AreDistinct}

pub in_map : {A B : Type 0} (f : A → B) (x : A) (xs : List A) → IsIn x xs → IsIn (f x) (map f xs)
in_map f x [] h = h
in_map f x (y ∷ ys) (inl e) = inl (ap f e)
in_map f x (y ∷ ys) (inr h) = inr (in_map f x ys h)

pub in_first : {A : Type 0} (x : A) (xs ys : List A) → IsIn x xs → IsIn x (xs ++ ys)
in_first x [] ys h = absurd h
in_first x (z ∷ zs) ys (inl e) = inl e
in_first x (z ∷ zs) ys (inr h) = inr (in_first x zs ys h)

pub in_second : {A : Type 0} (x : A) (xs ys : List A) → IsIn x ys → IsIn x (xs ++ ys)
in_second x [] ys h = h
in_second x (z ∷ zs) ys h = inr (in_second x zs ys h)

distinct_append : {A : Type 0} (xs ys : List A) → AreDistinct xs → AreDistinct ys → AllByRecursion (λ x. AllByRecursion (λ y. x ≡ y → ⊥) ys) xs → AreDistinct (xs ++ ys)
distinct_append [] ys a b h = b
distinct_append (x ∷ xs) ys a b h = (all_append (λ y. x ≡ y → ⊥) xs ys a.0 h.0, distinct_append xs ys a.1 b h.1)

-- a map that can be undone keeps what is distinct
pub distinct_map : {A B : Type 0} (f : A → B) → ((x y : A) → f x ≡ f y → x ≡ y) → (xs : List A) → AreDistinct xs → AreDistinct (map f xs)
distinct_map f undo [] h = tt
distinct_map {A = A} f undo (x ∷ xs) h = (apart xs h.0, distinct_map f undo xs h.1)
  where
    apart : (ys : List A) → AllByRecursion (λ y. x ≡ y → ⊥) ys → AllByRecursion (λ z. f x ≡ z → ⊥) (map f ys)
    apart [] a = tt
    apart (y ∷ ys) a = (λ e. a.0 (undo x y e), apart ys a.1)

-- Lists that are made of things with distinct names, each of which can be told from what is made of it, are distinct in a row.
pub distinct_flat : {A B C : Type 0} (f : A → List B) (name : A → C) (back : B → C) (P : A → Type 0) → ((x : A) → P x → AreDistinct (f x)) → ((x : A) → P x → AllByRecursion (λ y. back y ≡ name x) (f x))
    → (xs : List A) → AllByRecursion P xs → AreDistinct (map name xs) → AreDistinct (flat_map f xs)
distinct_flat f name back P each told [] p d = tt
distinct_flat {A = A} {B = B} f name back P each told (x ∷ xs) p d =
    distinct_append (f x) (flat_map f xs) (each x p.0) (distinct_flat f name back P each told xs p.1 d.1)
    (all_map (λ y. back y ≡ name x) (λ y. AllByRecursion (λ z. y ≡ z → ⊥) (flat_map f xs)) (f x) (λ y e. later y e xs p.1 d.0) (told x p.0))
  where
    later : (y : B) → back y ≡ name x → (rest : List A) → AllByRecursion P rest → AllByRecursion (λ z. name x ≡ z → ⊥) (map name rest) → AllByRecursion (λ z. y ≡ z → ⊥) (flat_map f rest)
    later y e [] q a = tt
    later y e (z ∷ rest) q a =
        all_append (λ w. y ≡ w → ⊥) (f z) (flat_map f rest)
        (all_map (λ w. back w ≡ name z) (λ w. y ≡ w → ⊥) (f z) (λ w k same. a.0 (sym e ∙ (ap back same ∙ k))) (told z q.0))
        (later y e rest q.1 a.1)

pub map_flat : {A B C : Type 0} (g : B → C) (f : A → List B) (xs : List A) → map g (flat_map f xs) ≡ flat_map (λ x. map g (f x)) xs
map_flat g f [] = refl
map_flat g f (x ∷ xs) = map-append g (f x) (flat_map f xs) ∙ ap (λ l. map g (f x) ++ l) (map_flat g f xs)
