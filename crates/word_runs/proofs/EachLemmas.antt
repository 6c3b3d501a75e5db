-- A function on each element of a list, in place.
use Rattle.std.proofs.Common.{◌≡◌, ℕ, zero, suc, ◌+◌, ◌<◌, List, [], ◌∷◌, ◌++◌, map, length, get_or, set, take, drop, Option, Some, None, refl, ap, sym, subst, ◌∙◌, arith, drop-cons}
use Rattle.std.specs.Prelude.{Result, Ok, Err}
use Rattle.std.specs.List.{AllByRecursion}
use Rattle.std.proofs.lemmas.List.{map-append, take_more, take_more_set, get_or-drop, drop-drop, drop-set-lt}
use Rattle.ring_laws.proofs.StatedLemmas.{some_inj}
use Rattle.word_runs.specs.Runs.{both, each, ◌>>>◌}
use Rattle.word_runs.specs.declared.fault.RunStop.{RunStop}

pub ok_same : {A F : Type 0} (r : Result A F) (a b : A) → r ≡ Ok a → r ≡ Ok b → a ≡ b
ok_same r a b p q = cc

-- the items from i on begin with item i
pub next_item : {A : Type 0} (xs : List A) (i : ℕ) (d : A) → i < length xs → drop i xs ≡ get_or xs i d ∷ drop (i + 1) xs
next_item xs i d h = let e : suc i ≡ i + 1 = omega arith in drop-cons xs i d h ∙ ap (λ j. get_or xs i d ∷ drop j xs) e

pub all_append : {A : Type 0} (P : A → Type 0) (xs ys : List A) → AllByRecursion P xs → AllByRecursion P ys → AllByRecursion P (xs ++ ys)
all_append P [] ys a b = b
all_append P (x ∷ xs) ys a b = (a.0, all_append P xs ys a.1 b)

pub all_map : {A : Type 0} (P Q : A → Type 0) (xs : List A) → ((x : A) → P x → Q x) → AllByRecursion P xs → AllByRecursion Q xs
all_map P Q [] f a = tt
all_map P Q (x ∷ xs) f a = (f x a.0, all_map P Q xs f a.1)

-- what holds anyway holds of each
pub all_const : {A : Type 0} (P : A → Type 0) (xs : List A) → ((x : A) → P x) → AllByRecursion P xs
all_const P [] h = tt
all_const P (x ∷ xs) h = (h x, all_const P xs h)

-- the parts of what is there
pub record Parts {B : Type 0} (o : Option B) (os : Option (List B)) (ys : List B) : Type 0 where
  pub head : B
  pub tail : List B
  pub is : ys ≡ head ∷ tail
  pub first : o ≡ Some head
  pub rest : os ≡ Some tail

pub both_parts : {B : Type 0} (o : Option B) (rest : Option (List B)) (ys : List B) → both o rest ≡ Some ys → Parts o rest ys
both_parts None rest ys e = absurd (cc)
both_parts (Some y) None ys e = absurd (cc)
both_parts (Some y) (Some zs) ys e = record { head = y; tail = zs; is = sym (some_inj (y ∷ zs) ys e); first = refl; rest = refl }

pub all_at : {A B : Type 0} (P : B → Type 0) (f : A → B) (xs : List A) (i : ℕ) (d : A) → i < length xs → AllByRecursion P (map f xs) → P (f (get_or xs i d))
all_at P f [] i d l h = absurd (omega arith)
all_at P f (x ∷ xs) zero d l h = h.0
all_at P f (x ∷ xs) (suc i) d l h = all_at P f xs i d (omega arith) h.1

-- the same of a list itself
pub all_get : {A : Type 0} (P : A → Type 0) (xs : List A) (i : ℕ) (d : A) → i < length xs → AllByRecursion P xs → P (get_or xs i d)
all_get P [] i d l h = absurd (omega arith)
all_get P (x ∷ xs) zero d l h = h.0
all_get P (x ∷ xs) (suc i) d l h = all_get P xs i d (omega arith) h.1

pub all_found : {A : Type 0} (P : A → Type 0) (xs : List A) (i : ℕ) (x : A) → i < length xs → x ≡ get_or xs i x → AllByRecursion P xs → P x
all_found P xs i x l e h = subst P (sym e) (all_get P xs i x l h)

-- the same of an item of a loop
pub all_item : {A B : Type 0} (P : B → Type 0) (f : A → B) (xs : List A) (i : ℕ) (x : A) → i < length xs → x ≡ get_or xs i x → AllByRecursion P (map f xs) → P (f x)
all_item P f xs i x l e h = subst (λ y. P (f y)) (sym e) (all_at P f xs i x l h)

-- what f makes of all, where it makes what is Q of what is P
pub each_keeps : {A B : Type 0} (f : A → Option B) (P : A → Type 0) (Q : B → Type 0) → ((x : A) (y : B) → f x ≡ Some y → P x → Q y)
    → (xs : List A) (ys : List B) → each f xs ≡ Some ys → AllByRecursion P xs → AllByRecursion Q ys
each_keeps f P Q k [] ys e h = subst (AllByRecursion Q) (some_inj [] ys e) tt
each_keeps f P Q k (x ∷ xs) ys e h =
    let p = both_parts (f x) (each f xs) ys e in
    subst (AllByRecursion Q) (sym p.is) (k x p.head p.first h.0, each_keeps f P Q k xs p.tail p.rest h.1)

-- a run that ends has ended its first part
pub ok_first : {A B : Type 0} (r : Result A RunStop) (f : A → Result B RunStop) (y : B) → (r >>> f) ≡ Ok y → (x : A) × (r ≡ Ok x) × (f x ≡ Ok y)
ok_first (Ok x) f y h = (x, refl, h)
ok_first (Err g) f y h = absurd (cc)

pub all_set : {A : Type 0} (P : A → Type 0) (xs : List A) (i : ℕ) (y : A) → P y → AllByRecursion P xs → AllByRecursion P (set xs i y)
all_set P [] i y p h = h
all_set P (x ∷ xs) zero y p h = (p, h.1)
all_set P (x ∷ xs) (suc i) y p h = (h.0, all_set P xs i y p h.1)

-- lists with the same rest have the same element there
pub same_at : {A : Type 0} (xs ys : List A) (i : ℕ) (d : A) → drop i xs ≡ drop i ys → get_or xs i d ≡ get_or ys i d
same_at xs ys i d e =
    let z : i + 0 ≡ i = omega arith in
    ap (λ j. get_or xs j d) (sym z) ∙ (sym (get_or-drop i xs 0 d) ∙ (ap (λ l. get_or l 0 d) e ∙ (get_or-drop i ys 0 d ∙ ap (λ j. get_or ys j d) z)))

pub same_rest : {A : Type 0} (xs ys : List A) (i : ℕ) (y : A) → drop i xs ≡ drop i ys → drop (i + 1) (set xs i y) ≡ drop (i + 1) ys
same_rest xs ys i y e =
    drop-set-lt (i + 1) xs i y (omega arith) ∙ (sym (drop-drop 1 i xs) ∙ (ap (drop 1) e ∙ drop-drop 1 i ys))

both_some : {B : Type 0} (o : Option B) (rest rest' : Option (List B)) (ys : List B) (y : B) → both o rest ≡ Some ys
    → ((ws : List B) → rest ≡ Some ws → rest' ≡ Some (ws ++ y ∷ [])) → both o rest' ≡ Some (ys ++ y ∷ [])
both_some None rest rest' ys y e h = absurd (cc)
both_some (Some w) None rest' ys y e h = absurd (cc)
both_some (Some w) (Some ws) rest' ys y e h = rw (h ws refl) (ap (λ l. Some (l ++ y ∷ [])) (some_inj (w ∷ ws) ys e))

pub each_append : {A B : Type 0} (f : A → Option B) (xs : List A) (x : A) (ys : List B) (y : B) → each f xs ≡ Some ys → f x ≡ Some y → each f (xs ++ x ∷ []) ≡ Some (ys ++ y ∷ [])
each_append f [] x ys y e h = rw h (ap (λ l. Some (l ++ y ∷ [])) (some_inj [] ys e))
each_append f (z ∷ zs) x ys y e h = both_some (f z) (each f zs) (each f (zs ++ x ∷ [])) ys y e (λ ws r. each_append f zs x ws y r h)

both_none : {B : Type 0} (o : Option B) (rest : Option (List B)) → rest ≡ None → both o rest ≡ None
both_none None rest e = refl
both_none (Some w) rest e = rw e refl

-- none of one is none of all
pub each_fails : {A B : Type 0} (f : A → Option B) (xs : List A) (i : ℕ) (d : A) → i < length xs → f (get_or xs i d) ≡ None → each f xs ≡ None
each_fails f [] i d l e = absurd (omega arith)
each_fails f (x ∷ xs) zero d l e = rw e refl
each_fails f (x ∷ xs) (suc i) d l e = both_none (f x) (each f xs) (each_fails f xs i d (omega arith) e)

pub get_map : {A B : Type 0} (f : A → B) (xs : List A) (i : ℕ) (d : A) → get_or (map f xs) i (f d) ≡ f (get_or xs i d)
get_map f [] i d = refl
get_map f (x ∷ xs) zero d = refl
get_map f (x ∷ xs) (suc i) d = get_map f xs i d

-- one more
pub each_more : {A C : Type 0} (f : A → C) (h : C → Option C) (old now : List A) (i : ℕ) (x y : A) → i < length old → i < length now
    → drop i now ≡ drop i old → x ≡ get_or now i x → h (f x) ≡ Some (f y)
    → each h (map f (take i old)) ≡ Some (map f (take i now))
    → each h (map f (take (i + 1) old)) ≡ Some (map f (take (i + 1) (set now i y)))
each_more f h old now i x y lo ln rest is step done =
    let there : x ≡ get_or old i x = is ∙ same_at now old i x rest in
    ap (λ l. each h (map f l)) (take_more old i x lo ∙ ap (λ z. take i old ++ z ∷ []) (sym there))
    ∙ (ap (each h) (map-append f (take i old) (x ∷ []))
    ∙ (each_append h (map f (take i old)) (f x) (map f (take i now)) (f y) done step
    ∙ ap Some (sym (map-append f (take i now) (y ∷ [])) ∙ ap (map f) (sym (take_more_set now i y ln)))))

-- one answer has one error
pub err_same : {T E : Type 0} (r : Result T E) (f g : E) → r ≡ Err f → r ≡ Err g → f ≡ g
err_same r f g a b = cc
