-- Lists of labels in order, and the order of lists that are made label by label.
use Rattle.std.proofs.Common.{◌≡◌, ℕ, zero, suc, ◌<◌, Bool, true, false, List, [], ◌∷◌, ◌++◌, map, refl, ap, sym, ◌∙◌, subst, arith}
use Rattle.std.specs.Prelude.{if◌then◌else◌}
use Rattle.std.specs.Str.{bytes_eq}
use Rattle.std.specs.List.{AllByRecursion, flat_map, filter, list_any}
use Rattle.std.specs.List.Sorted.{IsStrictlySortedBy}
use Rattle.std.specs.Ordering.{nat_cmp, is_eq}
use Rattle.std.specs.declared.cmp.Ordering.TheVariants.{Less, Equal}
use Rattle.std.specs.Cmp.{nat_cmp_is}
use Rattle.std.specs.BTreeSet.{BTreeSet}
use Rattle.std.proofs.lemmas.Cmp.{nat_list_cmp_total}
use Rattle.std.proofs.lemmas.Grind.{flat_map-append}
use Rattle.std.proofs.lemmas.List.{append-nil}
use Rattle.std.proofs.lemmas.Map.Lookups.{btree_set_from_contains, exact_bytes}
use Rattle.std.proofs.lemmas.Map.Text.{is_eq-slice_cmp}
use Rattle.amp_store.specs.Amplitudes.{key_cmp}

-- the labels below each number, in order
pub record CountsUp (below : ℕ → List ℕ) : Type 0 where
  pub none : below zero ≡ []
  pub more : (n : ℕ) → below (suc n) ≡ below n ++ n ∷ []

-- what is made of the labels below a number, with one label more
pub made_more : {A : Type 0} (below : ℕ → List ℕ) (up : CountsUp below) (f : ℕ → List A) (n : ℕ) → flat_map f (below (suc n)) ≡ flat_map f (below n) ++ f n
made_more below up f n = ap (flat_map f) (up.more n) ∙ (flat_map-append f (below n) (n ∷ []) ∙ ap (λ l. flat_map f (below n) ++ l) (append-nil (f n)))

nat_cmp_less : (a b : ℕ) → a < b → nat_cmp a b ≡ Less
nat_cmp_less a b h = sym (nat_cmp_is a b Less h)

nat_cmp_same : (a : ℕ) → nat_cmp a a ≡ Equal
nat_cmp_same a = sym (nat_cmp_is a a Equal refl)

-- begins with a label below n
pub record StartsBelow (n : ℕ) (x : List ℕ) : Type 0 where
  pub head : ℕ
  pub rest : List ℕ
  pub is : x ≡ head ∷ rest
  pub below : head < n

pub record StartsAt (n : ℕ) (x : List ℕ) : Type 0 where
  pub rest : List ℕ
  pub is : x ≡ n ∷ rest

all_append : (P : List ℕ → Type 0) (xs ys : List (List ℕ)) → AllByRecursion P xs → AllByRecursion P ys → AllByRecursion P (xs ++ ys)
all_append P [] ys a b = b
all_append P (x ∷ xs) ys a b = (a.0, all_append P xs ys a.1 b)

all_weaker : (P Q : List ℕ → Type 0) (xs : List (List ℕ)) → ((x : List ℕ) → P x → Q x) → AllByRecursion P xs → AllByRecursion Q xs
all_weaker P Q [] f a = tt
all_weaker P Q (x ∷ xs) f a = (f x a.0, all_weaker P Q xs f a.1)

below_at : (n : ℕ) (x y : List ℕ) → StartsBelow n x → StartsAt n y → key_cmp x y ≡ Less
below_at n x y a b = rw (a.is, b.is, nat_cmp_less a.head n a.below) refl

sorted_append : (n : ℕ) (xs ys : List (List ℕ)) → IsStrictlySortedBy key_cmp xs → IsStrictlySortedBy key_cmp ys → AllByRecursion (StartsBelow n) xs → AllByRecursion (StartsAt n) ys → IsStrictlySortedBy key_cmp (xs ++ ys)
unfolding IsStrictlySortedBy
sorted_append n [] ys sx sy low at = sy
sorted_append n (x ∷ xs) ys sx sy low at = (
  all_append (λ y. key_cmp x y ≡ Less) xs ys sx.0 (all_weaker (StartsAt n) (λ y. key_cmp x y ≡ Less) ys (λ y b. below_at n x y low.0 b) at),
  sorted_append n xs ys sx.1 sy low.1 at,
)

pub put_less : (n : ℕ) (x y : List ℕ) → key_cmp x y ≡ Less → key_cmp (n ∷ x) (n ∷ y) ≡ Less
put_less n x y h = rw (nat_cmp_same n) h

put_all : (n : ℕ) (x : List ℕ) (ys : List (List ℕ)) → AllByRecursion (λ y. key_cmp x y ≡ Less) ys → AllByRecursion (λ y. key_cmp (n ∷ x) y ≡ Less) (map (λ y. n ∷ y) ys)
put_all n x [] a = tt
put_all n x (y ∷ ys) a = (put_less n x y a.0, put_all n x ys a.1)

pub sorted_put : (n : ℕ) (xs : List (List ℕ)) → IsStrictlySortedBy key_cmp xs → IsStrictlySortedBy key_cmp (map (λ x. n ∷ x) xs)
unfolding IsStrictlySortedBy
sorted_put n [] s = tt
sorted_put n (x ∷ xs) s = (put_all n x xs s.0, sorted_put n xs s.1)

pub starts_put : (n : ℕ) (xs : List (List ℕ)) → AllByRecursion (StartsAt n) (map (λ x. n ∷ x) xs)
starts_put n [] = tt
starts_put n (x ∷ xs) = (record { rest = x; is = refl }, starts_put n xs)

at_below : (n : ℕ) (x : List ℕ) → StartsAt n x → StartsBelow (suc n) x
at_below n x a = record { head = n; rest = a.rest; is = a.is; below = omega arith }

below_more : (n : ℕ) (x : List ℕ) → StartsBelow n x → StartsBelow (suc n) x
below_more n x a =
    let low : a.head < n = a.below in
    record { head = a.head; rest = a.rest; is = a.is; below = omega arith }

-- items of one label each, in order, are in order over all labels
pub record InOrder (n : ℕ) (xs : List (List ℕ)) : Type 0 where
  pub sorted : IsStrictlySortedBy key_cmp xs
  pub starts : AllByRecursion (StartsBelow n) xs

pub in_order : (below : ℕ → List ℕ) → CountsUp below → (f : ℕ → List (List ℕ)) → ((n : ℕ) → IsStrictlySortedBy key_cmp (f n)) → ((n : ℕ) → AllByRecursion (StartsAt n) (f n)) → (n : ℕ) → InOrder n (flat_map f (below n))
unfolding IsStrictlySortedBy
in_order below up f sorted starts zero = subst (InOrder zero) (sym (ap (flat_map f) up.none)) (record { sorted = tt; starts = tt })
in_order below up f sorted starts (suc n) =
    let before = in_order below up f sorted starts n in
    subst (InOrder (suc n)) (sym (made_more below up f n))
    (record {
      sorted = sorted_append n (flat_map f (below n)) (f n) before.sorted (sorted n) before.starts (starts n);
      starts = all_append (StartsBelow (suc n)) (flat_map f (below n)) (f n)
          (all_weaker (StartsBelow n) (StartsBelow (suc n)) (flat_map f (below n)) (below_more n) before.starts)
          (all_weaker (StartsAt n) (StartsBelow (suc n)) (f n) (at_below n) (starts n));
    })

-- a part of what is in order is in order
pub filter_all : {A : Type 0} (P : A → Type 0) (test : A → Bool) (xs : List A) → AllByRecursion P xs → AllByRecursion P (filter test xs)
filter_all P test [] a = tt
filter_all P test (x ∷ xs) a = pick (test x) (filter_all P test xs a.1)
  where
    pick : (b : Bool) → AllByRecursion P (filter test xs) → AllByRecursion P (if b then x ∷ filter test xs else filter test xs)
    pick true rest = (a.0, rest)
    pick false rest = rest

pub sorted_filter : (test : List ℕ → Bool) (xs : List (List ℕ)) → IsStrictlySortedBy key_cmp xs → IsStrictlySortedBy key_cmp (filter test xs)
unfolding IsStrictlySortedBy
sorted_filter test [] s = tt
sorted_filter test (x ∷ xs) s = pick (test x) (filter_all (λ y. key_cmp x y ≡ Less) test xs s.0) (sorted_filter test xs s.1)
  where
    pick : (b : Bool) → AllByRecursion (λ y. key_cmp x y ≡ Less) (filter test xs) → IsStrictlySortedBy key_cmp (filter test xs) → IsStrictlySortedBy key_cmp (if b then x ∷ filter test xs else filter test xs)
    pick true low rest = (low, rest)
    pick false low rest = rest

-- two lists in order that have the same items are equal
pub same_in_order : (xs ys : List (List ℕ)) → IsStrictlySortedBy key_cmp xs → IsStrictlySortedBy key_cmp ys
    → ((q : List ℕ) → list_any (λ k. bytes_eq q k) xs ≡ list_any (λ k. bytes_eq q k) ys) → xs ≡ ys
same_in_order xs ys sx sy same =
    let s : BTreeSet (List ℕ) = record { keys = xs } in
    let t : BTreeSet (List ℕ) = record { keys = ys } in
    btree_set_from_contains nat_list_cmp_total s t sx sy (λ q. to q xs ∙ (same q ∙ sym (to q ys))) exact_bytes
  where
    to : (q : List ℕ) (ks : List (List ℕ)) → list_any (λ k. is_eq (key_cmp q k)) ks ≡ list_any (λ k. bytes_eq q k) ks
    to q [] = refl
    to q (k ∷ ks) = rw (is_eq-slice_cmp q k, to q ks) refl
