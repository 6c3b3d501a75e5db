-- The live words in order are the living words.
use Rattle.std.proofs.Common.{◌≡◌, ℕ, zero, suc, ◌+◌, ◌<◌, ◌≤◌, Bool, true, false, not, inl, inr, ◌⊎◌, List, [], ◌∷◌, ◌++◌, map, length, get_or, refl, ap, sym, subst, ◌∙◌, arith, zero-add}
use Rattle.std.specs.Prelude.{if◌then◌else◌, ◌||◌, slice_index, IsPermutation, IsSortedByKey}
use Rattle.std.specs.Str.{bytes_eq}
use Rattle.std.specs.List.{AllByRecursion, All, flat_map, filter, list_any, count_by}
use Rattle.std.specs.List.Sorted.{IsStrictlySortedBy}
use Rattle.std.specs.Ordering.{nat_cmp, is_eq, is_lt, ordering_reverse}
use Rattle.std.specs.declared.cmp.Ordering.{Ordering}
use Rattle.std.specs.declared.cmp.Ordering.TheVariants.{Less, Equal, Greater}
use Rattle.std.specs.Cmp.{nat_cmp_is, both_ways}
use Rattle.std.specs.BTreeSet.{BTreeSet}
use Rattle.std.proofs.lemmas.Cmp.{nat_list_cmp_total}
use Rattle.std.proofs.lemmas.Grind.{flat_map-append}
use Rattle.std.proofs.lemmas.Bool.Decides.{leb_tells}
use Rattle.std.proofs.lemmas.Slice.Eq.{bytes_eq-Decides}
use Rattle.std.proofs.lemmas.List.{append-nil, get_or-map, length-map}
use Rattle.std.proofs.lemmas.List.Elements.{recursion_from_All, All-from_recursion}
use Rattle.std.proofs.lemmas.List.Kept.{IsStrictlySortedBy-filter}
use Rattle.std.proofs.lemmas.List.Sorted.{ranks_by, sorted_far, All-permutation, IsPermutation-map, list_any-IsPermutation, sum_by-IsPermutation}
use Rattle.std.proofs.lemmas.List.Sums.{sum_by-cons}
use Rattle.std.proofs.lemmas.Map.Lookups.{btree_set_from_contains, exact_bytes}
use Rattle.std.proofs.lemmas.Map.Text.{is_eq-slice_cmp}
use Rattle.program_text.specs.declared.letter.Letter.{Letter}
use Rattle.comb_laws.specs.Paths.{labels}
use Rattle.comb_laws.specs.Plans.{words}
use Rattle.comb_laws.specs.Words.{Acts, word_state}
use Rattle.word_runs.specs.Lives.{live_of, lives_of}
use Rattle.word_runs.specs.Runs.{Live}
use Rattle.word_runs.specs.declared.live.LiveWord.{LiveWord}
use Rattle.word_runs.proofs.EachLemmas.{all_append, all_map}
use Rattle.run_laws.specs.Meaning.{IsIn, AreDistinct, IsFull, words_of, StandsAlive, AreEnds}
use Rattle.run_laws.specs.Rows.{word_cmp, living_words, WordsAreAll, SortedEnds, EndsInOrder}
use Rattle.run_laws.proofs.DistinctLemmas.{in_first, in_second, in_map}

-- membership as a test
pub in_any : (q : List ℕ) (xs : List (List ℕ)) → IsIn q xs → list_any (λ k. bytes_eq q k) xs ≡ true
in_any q [] h = absurd h
in_any q (x ∷ xs) (inl e) = ap (λ b. b || list_any (λ k. bytes_eq q k) xs) ((bytes_eq-Decides q x).1 e)
in_any q (x ∷ xs) (inr h) = either (bytes_eq q x) (list_any (λ k. bytes_eq q k) xs) (in_any q xs h)
  where
    either : (a b : Bool) → b ≡ true → (a || b) ≡ true
    either true b h = refl
    either false b h = h

pub any_in : (q : List ℕ) (xs : List (List ℕ)) → list_any (λ k. bytes_eq q k) xs ≡ true → IsIn q xs
any_in q [] h = absurd (cc)
any_in q (x ∷ xs) h = by (bytes_eq q x) refl h (any_in q xs)
  where
    by : (b : Bool) → bytes_eq q x ≡ b → (b || list_any (λ k. bytes_eq q k) xs) ≡ true → (list_any (λ k. bytes_eq q k) xs ≡ true → IsIn q xs) → IsIn q (x ∷ xs)
    by true is h rest = inl ((bytes_eq-Decides q x).0 is)
    by false is h rest = inr (rest h)

-- lists in order with the same members are the same
pub same_in_order : (xs ys : List (List ℕ)) → IsStrictlySortedBy word_cmp xs → IsStrictlySortedBy word_cmp ys
    → ((q : List ℕ) → IsIn q xs → IsIn q ys) → ((q : List ℕ) → IsIn q ys → IsIn q xs) → xs ≡ ys
same_in_order xs ys sx sy over back =
    let s : BTreeSet (List ℕ) = record { keys = xs } in
    let t : BTreeSet (List ℕ) = record { keys = ys } in
    btree_set_from_contains nat_list_cmp_total s t sx sy (λ q. to q xs ∙ (same q ∙ sym (to q ys))) exact_bytes
  where
    to : (q : List ℕ) (ks : List (List ℕ)) → list_any (λ k. is_eq (word_cmp q k)) ks ≡ list_any (λ k. bytes_eq q k) ks
    to q [] = refl
    to q (k ∷ ks) = rw (is_eq-slice_cmp q k, to q ks) refl

    same : (q : List ℕ) → list_any (λ k. bytes_eq q k) xs ≡ list_any (λ k. bytes_eq q k) ys
    same q = both_ways (list_any (λ k. bytes_eq q k) xs) (list_any (λ k. bytes_eq q k) ys) (λ h. in_any q ys (over q (any_in q xs h))) (λ h. in_any q xs (back q (any_in q ys h)))

-- what is not behind and not the same is before
before : (x y : List ℕ) → is_lt (word_cmp y x) ≡ false → (x ≡ y → ⊥) → word_cmp x y ≡ Less
before x y h apart = by (word_cmp x y) refl
  where
    by : (o : Ordering) → word_cmp x y ≡ o → word_cmp x y ≡ Less
    by Less is = is
    by Equal is = absurd (apart (exact_bytes x y is))
    by Greater is =
        let turned : word_cmp y x ≡ Less = nat_list_cmp_total.antisymm y x ∙ ap ordering_reverse is in
        let on : is_lt (word_cmp y x) ≡ true = ap is_lt turned in
        absurd (cc)

-- a sorted list in which no word stands twice rises
pub rises : {A : Type 0} (key : A → List ℕ) (xs : List A) → IsSortedByKey key word_cmp xs → AreDistinct (map key xs) → IsStrictlySortedBy word_cmp (map key xs)
unfolding IsStrictlySortedBy
rises key [] s d = tt
rises {A} key (x ∷ xs) s d = (
  firsts xs (recursion_from_All (λ y. is_lt (word_cmp (key y) (key x)) ≡ false) xs far) d.0,
  rises key xs (λ k e low high. tail k e high) d.1,
)
  where
    far : All (λ y. is_lt (word_cmp (key y) (key x)) ≡ false) xs
    far j e h = sorted_far (λ a b. is_lt (word_cmp (key a) (key b))) (ranks_by nat_list_cmp_total key) (x ∷ xs) s 0 (suc j) e (omega arith) (omega arith)

    firsts : (ys : List A) → AllByRecursion (λ y. is_lt (word_cmp (key y) (key x)) ≡ false) ys → AllByRecursion (λ y. key x ≡ y → ⊥) (map key ys) → AllByRecursion (λ y. word_cmp (key x) y ≡ Less) (map key ys)
    firsts [] a b = tt
    firsts (y ∷ ys) a b = (before (key x) (key y) a.0 b.0, firsts ys a.1 b.1)

    tail : (k : ℕ) (e : A) → k + 1 < length xs → is_lt (word_cmp (key (get_or xs (k + 1) e)) (key (get_or xs k e))) ≡ false
    tail k e h = sorted_far (λ a b. is_lt (word_cmp (key a) (key b))) (ranks_by nat_list_cmp_total key) (x ∷ xs) s (suc k) (suc (k + 1)) e (omega arith) (omega arith)

-- a permutation has the same members, and no word twice where the other has none
pub in_permutation : (xs ys : List (List ℕ)) → IsPermutation xs ys → (q : List ℕ) → IsIn q ys → IsIn q xs
in_permutation xs ys p q h = any_in q xs (list_any-IsPermutation (λ k. bytes_eq q k) xs ys p ∙ in_any q ys h)

pub out_permutation : (xs ys : List (List ℕ)) → IsPermutation xs ys → (q : List ℕ) → IsIn q xs → IsIn q ys
out_permutation xs ys p q h = any_in q ys (sym (list_any-IsPermutation (λ k. bytes_eq q k) xs ys p) ∙ in_any q xs h)

count_cons : (q x : List ℕ) (xs : List (List ℕ)) → count_by (λ k. bytes_eq q k) (x ∷ xs) ≡ (if bytes_eq q x then 1 else 0) + count_by (λ k. bytes_eq q k) xs
count_cons q x xs = sum_by-cons (λ k. if bytes_eq q k then 1 else 0) x xs

not_equal : (a b : List ℕ) → (a ≡ b → ⊥) → bytes_eq a b ≡ false
not_equal a b f = by (bytes_eq a b) refl
  where
    by : (t : Bool) → bytes_eq a b ≡ t → bytes_eq a b ≡ false
    by true is = absurd (f ((bytes_eq-Decides a b).0 is))
    by false is = is

none_counts : (q : List ℕ) (xs : List (List ℕ)) → AllByRecursion (λ y. q ≡ y → ⊥) xs → count_by (λ k. bytes_eq q k) xs ≡ 0
none_counts q [] h = refl
none_counts q (x ∷ xs) h =
    let off : bytes_eq q x ≡ false = not_equal q x h.0 in
    let rest : count_by (λ k. bytes_eq q k) xs ≡ 0 = none_counts q xs h.1 in
    count_cons q x xs ∙ rw off (omega arith)

zero_counts : (q : List ℕ) (xs : List (List ℕ)) → count_by (λ k. bytes_eq q k) xs ≡ 0 → AllByRecursion (λ y. q ≡ y → ⊥) xs
zero_counts q [] h = tt
zero_counts q (x ∷ xs) h = by (bytes_eq q x) refl (sym (count_cons q x xs) ∙ h) (zero_counts q xs)
  where
    by : (b : Bool) → bytes_eq q x ≡ b → (if b then 1 else 0) + count_by (λ k. bytes_eq q k) xs ≡ 0 → (count_by (λ k. bytes_eq q k) xs ≡ 0 → AllByRecursion (λ y. q ≡ y → ⊥) xs) → AllByRecursion (λ y. q ≡ y → ⊥) (x ∷ xs)
    by true is e rest = absurd (omega arith)
    by false is e rest = ((λ same. absurd (let on : bytes_eq q x ≡ true = (bytes_eq-Decides q x).1 same in cc)), rest (sym (zero-add (count_by (λ k. bytes_eq q k) xs)) ∙ e))

distinct_counts : (q : List ℕ) (xs : List (List ℕ)) → AreDistinct xs → count_by (λ k. bytes_eq q k) xs ≤ 1
distinct_counts q [] d = omega arith
distinct_counts q (x ∷ xs) d = subst (λ n. n ≤ 1) (sym (count_cons q x xs)) (by (bytes_eq q x) refl (distinct_counts q xs d.1))
  where
    by : (b : Bool) → bytes_eq q x ≡ b → count_by (λ k. bytes_eq q k) xs ≤ 1 → (if b then 1 else 0) + count_by (λ k. bytes_eq q k) xs ≤ 1
    by true is rest =
        let same : q ≡ x = (bytes_eq-Decides q x).0 is in
        let none : count_by (λ k. bytes_eq q k) xs ≡ 0 = none_counts q xs (all_map (λ y. x ≡ y → ⊥) (λ y. q ≡ y → ⊥) xs (λ y f e. f (sym same ∙ e)) d.0) in
        omega arith
    by false is rest = omega arith

counts_distinct : (xs : List (List ℕ)) → ((q : List ℕ) → count_by (λ k. bytes_eq q k) xs ≤ 1) → AreDistinct xs
counts_distinct [] h = tt
counts_distinct (x ∷ xs) h = (zero_counts x xs none, counts_distinct xs fewer)
  where
    none : count_by (λ k. bytes_eq x k) xs ≡ 0
    none =
        let on : bytes_eq x x ≡ true = (bytes_eq-Decides x x).1 refl in
        let all : (if bytes_eq x x then 1 else 0) + count_by (λ k. bytes_eq x k) xs ≤ 1 = subst (λ n. n ≤ 1) (count_cons x x xs) (h x) in
        let one : 1 + count_by (λ k. bytes_eq x k) xs ≤ 1 = subst (λ b. (if b then 1 else 0) + count_by (λ k. bytes_eq x k) xs ≤ 1) on all in
        omega arith

    fewer : (q : List ℕ) → count_by (λ k. bytes_eq q k) xs ≤ 1
    fewer q = let all : (if bytes_eq q x then 1 else 0) + count_by (λ k. bytes_eq q k) xs ≤ 1 = subst (λ n. n ≤ 1) (count_cons q x xs) (h q) in omega arith

pub distinct_permutation : (xs ys : List (List ℕ)) → IsPermutation xs ys → AreDistinct xs → AreDistinct ys
distinct_permutation xs ys p d =
    counts_distinct ys (λ q. subst (λ n. n ≤ 1) (sym (sum_by-IsPermutation (λ k. if bytes_eq q k then 1 else 0) xs ys p)) (distinct_counts q xs d))

nat_cmp_less : (a b : ℕ) → a < b → nat_cmp a b ≡ Less
nat_cmp_less a b h = sym (nat_cmp_is a b Less h)

pub nat_cmp_same : (a : ℕ) → nat_cmp a a ≡ Equal
nat_cmp_same a = sym (nat_cmp_is a a Equal refl)

-- begins with a label below n
pub record StartsBelow (n : ℕ) (x : List ℕ) : Type 0 where
  pub head : ℕ
  pub rest : List ℕ
  pub is : x ≡ head ∷ rest
  pub below : head < n

pub record StartsAt (n : ℕ) (x : List ℕ) : Type 0 where
  pub rest : List ℕ
  pub is : x ≡ n ∷ rest

below_at : (n : ℕ) (x y : List ℕ) → StartsBelow n x → StartsAt n y → word_cmp x y ≡ Less
below_at n x y a b = rw (a.is, b.is, nat_cmp_less a.head n a.below) refl

sorted_append : (n : ℕ) (xs ys : List (List ℕ)) → IsStrictlySortedBy word_cmp xs → IsStrictlySortedBy word_cmp ys → AllByRecursion (StartsBelow n) xs → AllByRecursion (StartsAt n) ys → IsStrictlySortedBy word_cmp (xs ++ ys)
unfolding IsStrictlySortedBy
sorted_append n [] ys sx sy low at = sy
sorted_append n (x ∷ xs) ys sx sy low at = (
  all_append (λ y. word_cmp x y ≡ Less) xs ys sx.0 (all_map (StartsAt n) (λ y. word_cmp x y ≡ Less) ys (λ y b. below_at n x y low.0 b) at),
  sorted_append n xs ys sx.1 sy low.1 at,
)

put_less : (n : ℕ) (x y : List ℕ) → word_cmp x y ≡ Less → word_cmp (n ∷ x) (n ∷ y) ≡ Less
put_less n x y h = rw (nat_cmp_same n) h

put_all : (n : ℕ) (x : List ℕ) (ys : List (List ℕ)) → AllByRecursion (λ y. word_cmp x y ≡ Less) ys → AllByRecursion (λ y. word_cmp (n ∷ x) y ≡ Less) (map (λ y. n ∷ y) ys)
put_all n x [] a = tt
put_all n x (y ∷ ys) a = (put_less n x y a.0, put_all n x ys a.1)

sorted_put : (n : ℕ) (xs : List (List ℕ)) → IsStrictlySortedBy word_cmp xs → IsStrictlySortedBy word_cmp (map (λ x. n ∷ x) xs)
unfolding IsStrictlySortedBy
sorted_put n [] s = tt
sorted_put n (x ∷ xs) s = (put_all n x xs s.0, sorted_put n xs s.1)

starts_put : (n : ℕ) (xs : List (List ℕ)) → AllByRecursion (StartsAt n) (map (λ x. n ∷ x) xs)
starts_put n [] = tt
starts_put n (x ∷ xs) = (record { rest = x; is = refl }, starts_put n xs)

at_below : (n : ℕ) (x : List ℕ) → StartsAt n x → StartsBelow (suc n) x
at_below n x a = record { head = n; rest = a.rest; is = a.is; below = omega arith }

below_more : (n : ℕ) (x : List ℕ) → StartsBelow n x → StartsBelow (suc n) x
below_more n x a =
    let low : a.head < n = a.below in
    record { head = a.head; rest = a.rest; is = a.is; below = omega arith }

-- items of one label each, in order, are in order over all labels
pub record InOrder (n : ℕ) (xs : List (List ℕ)) : Type 0 where
  pub sorted : IsStrictlySortedBy word_cmp xs
  pub starts : AllByRecursion (StartsBelow n) xs

in_order : (f : ℕ → List (List ℕ)) → ((n : ℕ) → IsStrictlySortedBy word_cmp (f n)) → ((n : ℕ) → AllByRecursion (StartsAt n) (f n)) → (n : ℕ) → InOrder n (flat_map f (labels n))
unfolding IsStrictlySortedBy
in_order f sorted starts zero = record { sorted = tt; starts = tt }
in_order f sorted starts (suc n) =
    let before = in_order f sorted starts n in
    let same : flat_map f (labels (suc n)) ≡ flat_map f (labels n) ++ (f n ++ []) = flat_map-append f (labels n) (n ∷ []) in
    let tail = append-nil (f n) in
    record {
      sorted = rw (same, tail) (sorted_append n (flat_map f (labels n)) (f n) before.sorted (sorted n) before.starts (starts n));
      starts = rw (same, tail) (all_append (StartsBelow (suc n)) (flat_map f (labels n)) (f n)
          (all_map (StartsBelow n) (StartsBelow (suc n)) (flat_map f (labels n)) (below_more n) before.starts)
          (all_map (StartsAt n) (StartsBelow (suc n)) (f n) (at_below n) (starts n)));
    }

pub sorted_words : (count m : ℕ) → IsStrictlySortedBy word_cmp (words count m)
unfolding IsStrictlySortedBy
sorted_words count zero = (tt, tt)
sorted_words count (suc m) =
    (in_order (λ q. map (λ word. q ∷ word) (words count m)) (λ n. sorted_put n (words count m) (sorted_words count m)) (λ n. starts_put n (words count m)) count).sorted

-- the labels below n
pub in_labels : (n q : ℕ) → q < n → IsIn q (labels n)
in_labels zero q h = absurd (omega arith)
in_labels (suc n) q h = elim (leb_tells n q) [
  | inl last ↦ in_second q (labels n) (n ∷ []) (inl (let high : n ≤ q = last.1 in omega arith))
  | inr below ↦ in_first q (labels n) (n ∷ []) (in_labels n q (omega arith))
]

in_append : {A : Type 0} (x : A) (xs ys : List A) → IsIn x (xs ++ ys) → IsIn x xs ⊎ IsIn x ys
in_append x [] ys h = inr h
in_append x (z ∷ zs) ys (inl e) = inl (inl e)
in_append x (z ∷ zs) ys (inr h) = elim (in_append x zs ys h) [ inl a ↦ inl (inr a) | inr b ↦ inr b ]

labels_in : (n q : ℕ) → IsIn q (labels n) → q < n
labels_in zero q h = absurd h
labels_in (suc n) q h = elim (in_append q (labels n) (n ∷ []) h) [
  | inl below ↦ (let low : q < n = labels_in n q below in omega arith)
  | inr last ↦ elim last [ inl e ↦ omega arith | inr none ↦ absurd none ]
]

pub in_flat : {A B : Type 0} (f : A → List B) (y : B) (x : A) (xs : List A) → IsIn x xs → IsIn y (f x) → IsIn y (flat_map f xs)
in_flat f y x [] h k = absurd h
in_flat f y x (z ∷ zs) (inl e) k = in_first y (f z) (flat_map f zs) (subst (λ w. IsIn y (f w)) e k)
in_flat f y x (z ∷ zs) (inr h) k = in_second y (f z) (flat_map f zs) (in_flat f y x zs h k)

flat_in : {A B : Type 0} (f : A → List B) (y : B) (xs : List A) → IsIn y (flat_map f xs) → (x : A) × IsIn x xs × IsIn y (f x)
flat_in f y [] h = absurd h
flat_in f y (z ∷ zs) h = elim (in_append y (f z) (flat_map f zs) h) [
  | inl here ↦ (z, inl refl, here)
  | inr later ↦ (let p = flat_in f y zs later in (p.0, inr p.1, p.2))
]

map_in : {A B : Type 0} (f : A → B) (y : B) (xs : List A) → IsIn y (map f xs) → (x : A) × IsIn x xs × (y ≡ f x)
map_in f y [] h = absurd h
map_in f y (z ∷ zs) (inl e) = (z, inl refl, e)
map_in f y (z ∷ zs) (inr h) = let p = map_in f y zs h in (p.0, inr p.1, p.2)

-- the words of m labels are all full words
pub in_words : (count m : ℕ) (w : List ℕ) → IsFull count m w → IsIn w (words count m)
in_words count zero [] is = inl refl
in_words count zero (q ∷ w) is = absurd (let e : suc (length w) ≡ 0 = is.long in omega arith)
in_words count (suc m) [] is = absurd (let e : 0 ≡ suc m = is.long in omega arith)
in_words count (suc m) (q ∷ w) is =
    in_flat (λ r. map (λ word. r ∷ word) (words count m)) (q ∷ w) q (labels count) (in_labels count q (is.label 0 (omega arith)))
    (in_map (λ word. q ∷ word) w (words count m) (in_words count m w (record {
      long = (let e : suc (length w) ≡ suc m = is.long in omega arith);
      label = λ p low. is.label (suc p) (omega arith);
    })))

pub words_in : (count m : ℕ) (w : List ℕ) → IsIn w (words count m) → IsFull count m w
words_in count zero w (inl e) = record { long = ap length e; label = λ p low. absurd (omega arith) }
words_in count zero w (inr none) = absurd none
words_in count (suc m) w h =
    let p = flat_in (λ r. map (λ word. r ∷ word) (words count m)) w (labels count) h in
    let q = map_in (λ word. p.0 ∷ word) w (words count m) p.2 in
    let rest = words_in count m q.0 q.1 in
    subst (IsFull count (suc m)) (sym q.2) (record { long = ap suc rest.long; label = λ i low. head_or p.0 q.0 (labels_in count p.0 p.1) rest i low })
  where
    head_or : (a : ℕ) (v : List ℕ) → a < count → IsFull count m v → (i : ℕ) → i < suc m → slice_index (a ∷ v) i < count
    head_or a v low full zero i = low
    head_or a v low full (suc i) j = full.label i (omega arith)

pub in_filter : {A : Type 0} (test : A → Bool) (x : A) (xs : List A) → IsIn x xs → test x ≡ true → IsIn x (filter test xs)
in_filter test x [] h t = absurd h
in_filter {A} test x (y ∷ ys) (inl e) t = subst (λ b. IsIn x (if b then y ∷ filter test ys else filter test ys)) (sym t ∙ ap test e) (inl e)
in_filter {A} test x (y ∷ ys) (inr h) t = by (test y) (in_filter test x ys h t)
  where
    by : (b : Bool) → IsIn x (filter test ys) → IsIn x (if b then y ∷ filter test ys else filter test ys)
    by true rest = inr rest
    by false rest = rest

pub filter_in : {A : Type 0} (test : A → Bool) (x : A) (xs : List A) → IsIn x (filter test xs) → IsIn x xs × (test x ≡ true)
filter_in test x [] h = absurd h
filter_in {A} test x (y ∷ ys) h = by (test y) refl h (filter_in test x ys)
  where
    by : (b : Bool) → test y ≡ b → IsIn x (if b then y ∷ filter test ys else filter test ys) → (IsIn x (filter test ys) → IsIn x ys × (test x ≡ true)) → IsIn x (y ∷ ys) × (test x ≡ true)
    by true is (inl e) rest = (inl e, ap test e ∙ is)
    by true is (inr h) rest = let p = rest h in (inr p.0, p.1)
    by false is h rest = let p = rest h in (inr p.0, p.1)

-- items that are sorted by a key of what is made of them
sorted_map : {A B : Type 0} (f : A → B) (key : B → List ℕ) (xs : List A) → IsSortedByKey (λ x. key (f x)) word_cmp xs → IsSortedByKey key word_cmp (map f xs)
sorted_map f key [] s = λ k e low high. absurd (omega arith)
sorted_map {A} {B} f key (x ∷ xs) s = λ k e low high.
    let long : length (map f (x ∷ xs)) ≡ length (x ∷ xs) = length-map (x ∷ xs) f in
    let inside : k + 1 < length (x ∷ xs) = omega arith in
    let here : k < length (x ∷ xs) = omega arith in
    (λ i. is_lt (word_cmp (key (get_or-map f (x ∷ xs) (k + 1) x e inside i)) (key (get_or-map f (x ∷ xs) k x e here i)))) ∙ s k x low inside

-- so live words of the code that are sorted by their labels are so as they are seen
pub sorted_lives : {S M : Type 0} (seen : S → M) (xs : List (LiveWord S)) → IsSortedByKey (λ l. l.word.items) word_cmp xs → IsSortedByKey (λ l. l.word) word_cmp (lives_of seen xs)
sorted_lives {S} {M} seen xs s = sorted_map (live_of seen) (λ (l : Live M). l.word) xs s

pub words_are_all : WordsAreAll
words_are_all count m = record { rising = sorted_words count m; full = words_in count m; all = in_words count m }

module _ {M V : Type 0} (count m : ℕ) (act : Acts V) (Good : V → Type 0) (nought : V → Bool) (Stands : M → V → Type 0) (ls : List Letter) (v : V) where
  abbrev Right : Live M → Type 0
  Right l = IsFull count m l.word × Stands l.state (word_state act l.word ls v)

  -- the order of the ends doesn't count
  ends_permuted : (live ends : List (Live M)) → IsPermutation live ends → AreEnds count m act Good nought Stands ls v live → AreEnds count m act Good nought Stands ls v ends
  ends_permuted live ends p are =
      let words = IsPermutation-map (λ (l : Live M). l.word) live ends p in
      record {
        good = are.good;
        sound = recursion_from_All Right ends (All-permutation Right live ends p (All-from_recursion Right live are.sound));
        complete = λ w is n. out_permutation (words_of live) (words_of ends) words w (are.complete w is n);
        distinct = distinct_permutation (words_of live) (words_of ends) words are.distinct;
      }

  sort_ends : (live sorted : List (Live M)) → AreEnds count m act Good nought Stands ls v live → IsPermutation live sorted → IsSortedByKey (λ l. l.word) word_cmp sorted
      → AreEnds count m act Good nought Stands ls v sorted × IsStrictlySortedBy word_cmp (words_of sorted)
  sort_ends live sorted are p order =
      let ends = ends_permuted live sorted p are in
      (ends, rises (λ (l : Live M). l.word) sorted order ends.distinct)

  -- what a live word is
  pub right_in : (q : List ℕ) (live : List (Live M)) → AllByRecursion Right live → IsIn q (words_of live) → (s : M) × IsFull count m q × Stands s (word_state act q ls v)
  right_in q [] h there = absurd there
  right_in q (l ∷ live) h (inl same) = (l.state, subst (IsFull count m) (sym same) h.0.0, subst (λ w. Stands l.state (word_state act w ls v)) (sym same) h.0.1)
  right_in q (l ∷ live) h (inr there) = right_in q live h.1 there

pub sorted_ends : {M V : Type 0} (count : ℕ) (act : Acts V) (Good : V → Type 0) (nought : V → Bool) (Stands : M → V → Type 0) → SortedEnds count act Good nought Stands
sorted_ends count act Good nought Stands m ls v live sorted are p order = sort_ends count m act Good nought Stands ls v live sorted are p order

pub not_false : (b : Bool) → b ≡ false → not b ≡ true
not_false b h = rw h refl

pub false_not : (b : Bool) → not b ≡ true → b ≡ false
false_not true h = absurd (cc)
false_not false h = refl

pub ends_in_order : {M V : Type 0} (count : ℕ) (act : Acts V) (Good : V → Type 0) (nought : V → Bool) (Stands : M → V → Type 0) → EndsInOrder count act Good nought Stands
ends_in_order count act Good nought Stands m ls v live are rising =
    let some = λ (w : List ℕ). not (nought (word_state act w ls v)) in
    same_in_order (words_of live) (living_words count m act nought ls v) rising
    (IsStrictlySortedBy-filter word_cmp some (words count m) (sorted_words count m))
    (λ q h. let p = right_in count m act Good nought (StandsAlive nought Stands) ls v q live are.sound h in in_filter some q (words count m) (in_words count m q p.1) (not_false (nought (word_state act q ls v)) p.2.1))
    (λ q h. let p = filter_in some q (words count m) h in are.complete q (words_in count m q p.0) (false_not (nought (word_state act q ls v)) p.1))
