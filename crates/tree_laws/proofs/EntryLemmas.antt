-- The sum over the entries of a state is the sum over all keys.
use Rattle.std.proofs.Common.{◌≡◌, ℕ, zero, suc, ◌+◌, ◌-◌, ◌<◌, ◌≤◌, Bool, true, false, List, [], ◌∷◌, length, get_or, refl, ap, ap₂, sym, ◌∙◌, subst, arith, inl, inr}
use Rattle.std.specs.Prelude.{if◌then◌else◌, IsTrue, All}
use Rattle.std.specs.Str.{bytes_eq}
use Rattle.std.proofs.lemmas.Slice.Eq.{bytes_eq-Decides}
use Rattle.std.proofs.lemmas.Grind.{same_number_lists}
use Rattle.std.proofs.lemmas.Bool.Decides.{eqb_tells}
use Rattle.ring_laws.specs.Ring.{Held, RingLaws}
use Rattle.ring_laws.proofs.SumLemmas as S
use Rattle.symbol_table.specs.Symbols.{Symbols}
use Rattle.tree_shapes.specs.Outlines.{Outline, size}
use Rattle.tree_laws.specs.Trees.{put, at_gap, at_gaps, stands_for, amplitude}
use Rattle.tree_laws.specs.Entries.{labels_of, listed, value_at, AreKeys, over_entries, comb_of, values}
use Rattle.tree_laws.proofs.Keys.{Key, put_here, put_off, gaps_same}
use Rattle.tree_laws.proofs.Factor.{amp_same}

-- the same labels at the gaps 1 to n
abbrev pub Upto : ℕ → Key → Key → Type 0
Upto n a b = (g : ℕ) → 0 < g → g ≤ n → a g ≡ b g

pub length-listed : (i n : ℕ) (key : Key) → length (listed i n key) ≡ n
length-listed i zero key = refl
length-listed i (suc n) key = ap suc (length-listed (i + 1) n key)

pub at_listed : (i n : ℕ) (key : Key) (j : ℕ) → j < n → get_or (listed i n key) j 0 ≡ key (i + j)
at_listed i zero key j h = absurd (omega arith)
at_listed i (suc n) key zero h = ap key (omega arith)
at_listed i (suc n) key (suc j) h = at_listed (i + 1) n key j (omega arith) ∙ ap key (omega arith)

pub listed_same : (n : ℕ) (a b : Key) → Upto n a b → listed 1 n a ≡ listed 1 n b
listed_same n a b h =
    same_number_lists _ _ (length-listed 1 n a ∙ sym (length-listed 1 n b))
    (λ j l. let below : j < n = omega (arith, length-listed 1 n a) in
    at_listed 1 n a j below ∙ (h (1 + j) (omega arith) (omega arith) ∙ sym (at_listed 1 n b j below)))

pub listed_back : (n : ℕ) (key : List ℕ) → length key ≡ n → listed 1 n (labels_of key) ≡ key
listed_back n key e =
    same_number_lists _ _ (length-listed 1 n (labels_of key) ∙ sym e)
    (λ j l. let below : j < n = omega (arith, length-listed 1 n (labels_of key)) in
    at_listed 1 n (labels_of key) j below ∙ ap (λ k. get_or key k 0) (omega arith))

-- equal lists have equal labels
listed_apart : (n : ℕ) (a : Key) (key : List ℕ) → key ≡ listed 1 n a → Upto n a (labels_of key)
listed_apart n a key e g above below =
    let in_n : g - 1 < n = omega arith in
    let back : 1 + (g - 1) ≡ g = omega arith in
    sym (ap (λ l. get_or l (g - 1) 0) e ∙ (at_listed 1 n a (g - 1) in_n ∙ ap a back))

upto_put : (n t : ℕ) (a b : Key) → Upto n a b → Upto (suc n) (put (suc n) t a) (put (suc n) t b)
upto_put n t a b h g above below =
    elim (eqb_tells g (suc n)) [
      | inl last ↦ ap (put (suc n) t a) last.1 ∙ (put_here (suc n) t a ∙ sym (ap (put (suc n) t b) last.1 ∙ put_here (suc n) t b))
      | inr other ↦ put_off (suc n) t a g other.1 ∙ (h g above (omega (arith, other.1)) ∙ sym (put_off (suc n) t b g other.1))
    ]

upto_same : (n : ℕ) (here : Key) → Upto (suc n) (put (suc n) (here (suc n)) here) here
upto_same n here g above below =
    elim (eqb_tells g (suc n)) [
      | inl last ↦ ap (put (suc n) (here (suc n)) here) last.1 ∙ (put_here (suc n) (here (suc n)) here ∙ ap here (sym last.1))
      | inr other ↦ put_off (suc n) (here (suc n)) here g other.1
    ]

this_list : (a b : List ℕ) → a ≡ b → bytes_eq a b ≡ true
this_list a b e = (bytes_eq-Decides a b).1 e

other_list : (a b : List ℕ) → (a ≡ b → ⊥) → bytes_eq a b ≡ false
other_list a b h = elim (S.true_or_false (bytes_eq a b)) [ inl is ↦ absurd (h ((bytes_eq-Decides a b).0 is)) | inr isnt ↦ isnt ]

module _ {E : Type 0} (c : Symbols E) {K : Held E} (laws : RingLaws c.ring K) where
  pub gaps_zero : (n : ℕ) (G : Key → E) → ((key : Key) → G key ≡ c.ring.zero) → (key : Key) → at_gaps c n G key ≡ c.ring.zero
  gaps_zero zero G h key = h key
  gaps_zero (suc n) G h key = gaps_zero n (at_gap c (suc n) G) (λ key. S.total_none laws c.count _ (λ t _. h (put (suc n) t key))) key

  -- only keys with labels below the count matter
  pub gaps_same_below : (n : ℕ) (G G' : Key → E) → ((key : Key) → ((g : ℕ) → 0 < g → g ≤ n → key g < c.count) → G key ≡ G' key) → (key : Key) → at_gaps c n G key ≡ at_gaps c n G' key
  gaps_same_below zero G G' h key = h key (λ g a b. absurd (omega arith))
  gaps_same_below (suc n) G G' h key =
      gaps_same_below n (at_gap c (suc n) G) (at_gap c (suc n) G') (λ key low.
      S.total_same laws c.count _ _ (λ t l. h (put (suc n) t key) (λ g above below.
      elim (eqb_tells g (suc n)) [
        | inl last ↦ subst (λ (v : ℕ). v < c.count) (sym (ap (put (suc n) t key) last.1 ∙ put_here (suc n) t key)) l
        | inr other ↦ subst (λ (v : ℕ). v < c.count) (sym (put_off (suc n) t key g other.1)) (low g above (omega (arith, other.1)))
      ]))) key

  pub gaps_sum : (n : ℕ) (G G' : Key → E) (key : Key)
      → at_gaps c n (λ key. c.ring.sum (G key) (G' key)) key ≡ c.ring.sum (at_gaps c n G key) (at_gaps c n G' key)
  gaps_sum zero G G' key = refl
  gaps_sum (suc n) G G' key =
      gaps_same c laws n _ _ (λ key. S.total_sum laws c.count (λ t. G (put (suc n) t key)) (λ t. G' (put (suc n) t key))) key
      ∙ gaps_sum n (at_gap c (suc n) G) (at_gap c (suc n) G') key

  -- a sum over all keys with one term that isn't zero
  pub gaps_one : (n : ℕ) (here : Key) (G : Key → E)
      → ((g : ℕ) → 0 < g → g ≤ n → here g < c.count)
      → ((a : Key) → (Upto n a here → ⊥) → G a ≡ c.ring.zero)
      → ((a b : Key) → Upto n a b → G a ≡ G b)
      → ((a : Key) → IsTrue (c.ring.member (G a)))
      → (key : Key) → at_gaps c n G key ≡ G here
  gaps_one zero here G low none same m key = same key here (λ g a b. absurd (omega arith))
  gaps_one (suc n) here G low none same m key =
      let G' : Key → E = λ a. G (put (suc n) (here (suc n)) a) in
      gaps_same c laws n (at_gap c (suc n) G) G' (λ a.
      S.one_term laws c.count (here (suc n)) (λ t. G (put (suc n) t a))
      (λ t l ne. none (put (suc n) t a) (λ h. ne (sym (put_here (suc n) t a) ∙ h (suc n) (omega arith) (omega arith))))
      (low (suc n) (omega arith) (omega arith)) (m _)) key
      ∙ (gaps_one n here G' (λ g a b. low g a (omega arith))
      (λ a apart. none _ (λ h. apart (λ g above below. sym (put_off (suc n) (here (suc n)) a g (λ e. omega arith)) ∙ h g above (omega arith))))
      (λ a b h. same _ _ (upto_put n (here (suc n)) a b h)) (λ a. m _) key
      ∙ same _ _ (upto_same n here))

  -- either the entry's own amplitude, or that of the rest, in a product
  either_product : (b : Bool) (v w a : E) → (b ≡ true → w ≡ c.ring.zero)
      → c.ring.product (if b then v else w) a ≡ c.ring.sum (c.ring.product (if b then v else c.ring.zero) a) (c.ring.product w a)
  either_product true v w a h =
      sym (ap (c.ring.sum (c.ring.product v a)) (ap (λ y. c.ring.product y a) (h refl) ∙ S.zero-product laws a) ∙ laws.sum-zero _ (laws.product_is v a))
  either_product false v w a h =
      sym (ap (λ y. c.ring.sum y (c.ring.product w a)) (S.zero-product laws a) ∙ S.zero-sum laws _ (laws.product_is w a))

  absent : (es : List (List ℕ × E)) (key : List ℕ) → All (λ d. d.0 ≡ key → ⊥) es → value_at c.ring es key ≡ c.ring.zero
  absent [] key h = refl
  absent (e ∷ es) key h = S.if_no _ e.1 _ (other_list e.0 key (h 0 e (omega arith))) ∙ absent es key (λ k d l. h (suc k) d (omega arith))

  -- The sum over the entries is the sum over all keys.
  pub entries_are : (n : ℕ) (es : List (List ℕ × E)) (A : Key → E) → AreKeys c.count n es → ((a b : Key) → Upto n a b → A a ≡ A b)
      → (key : Key) → over_entries c.ring (λ key a. c.ring.product a (A (labels_of key))) es ≡ at_gaps c n (λ key. c.ring.product (values c.ring n es key) (A key)) key
  entries_are n [] A keys same key = sym (gaps_zero n _ (λ key. S.zero-product laws (A key)) key)
  entries_are n (e ∷ es) A keys same key =
      let here : Key = labels_of e.0 in
      let first : Key → E = λ a. c.ring.product (if bytes_eq e.0 (listed 1 n a) then e.1 else c.ring.zero) (A a) in
      ap₂ c.ring.sum
      (sym (gaps_one n here first
      (λ g a b. keys.0.labels (g - 1) (omega arith))
      (λ a apart. ap (λ y. c.ring.product y (A a)) (S.if_no _ e.1 c.ring.zero (other_list e.0 (listed 1 n a) (λ e'. apart (listed_apart n a e.0 e')))) ∙ S.zero-product laws (A a))
      (λ a b h. ap₂ (λ l y. c.ring.product (if bytes_eq e.0 l then e.1 else c.ring.zero) y) (listed_same n a b h) (same a b h))
      (λ a. laws.product_is _ _) key
      ∙ ap (λ y. c.ring.product y (A here)) (S.if_yes _ e.1 c.ring.zero (this_list e.0 (listed 1 n here) (sym (listed_back n e.0 keys.0.long))))))
      (entries_are n es A keys.2 same key)
      ∙ sym (gaps_same c laws n _ _ (λ a. either_product (bytes_eq e.0 (listed 1 n a)) e.1 (values c.ring n es a) (A a)
      (λ is. subst (λ (l : List ℕ). value_at c.ring es l ≡ c.ring.zero) ((bytes_eq-Decides e.0 (listed 1 n a)).0 is) (absent es e.0 keys.1))) key
      ∙ gaps_sum n first (λ a. c.ring.product (values c.ring n es a) (A a)) key)

  -- What a state stands for is the sum over all keys.
  pub comb_is : (shape : Outline) (strand : ℕ → ℕ) (es : List (List ℕ × E)) (x : ℕ → ℕ) → AreKeys c.count (size shape - 1) es
      → comb_of c shape strand es x ≡ stands_for c shape strand (values c.ring (size shape - 1) es) x
  comb_is shape strand es x keys =
      entries_are (size shape - 1) es (λ key. amplitude c shape strand x key 0) keys
      (λ a b h. amp_same c laws shape strand x a b 0 (λ g above below. h g above (omega arith))) (λ _. 0)
