-- Sums over the labels below a count, and two matrices that are inverse.
use Rattle.std.proofs.Common.{◌≡◌, List, [], ◌∷◌, ◌++◌, ℕ, zero, suc, ◌<◌, Bool, true, false, refl, ap, ap₂, sym, ◌∙◌, arith, inl, inr, ◌⊎◌, length, length-set, get_or, get_or-set_other, get_or-set_same}
use Rattle.std.proofs.lemmas.Bool.Decides.{leb_tells, eqb_tells, nat_tests}
use Rattle.std.specs.Prelude.{set, if◌then◌else◌, ◌==◌, ◌&&◌, IsTrue}
use Rattle.std.proofs.lemmas.Bool.{cases_eq}
use Rattle.std.proofs.lemmas.List.Sorted.{IsPermutation-keeps}
use Rattle.std.specs.List.{swap}
use Rattle.std.proofs.lemmas.List.Edits.{swap_is}
use Rattle.ring_laws.specs.Laws.{OrderIsFree}
use Rattle.ring_laws.specs.Ring.{Ring, Held, RingLaws}
use Rattle.ring_laws.specs.Sums.{total, sum_over}

pub test_false : (e n : ℕ) → (e ≡ n → ⊥) → (e == n) ≡ false
test_false e n h = grind (arith, nat_tests)

pub test_true : (e n : ℕ) → e ≡ n → (e == n) ≡ true
test_true e n h = grind (arith, nat_tests)

pub if_no : {A : Type 0} (b : Bool) (x y : A) → b ≡ false → (if b then x else y) ≡ y
if_no b x y e = rw e refl

pub if_yes : {A : Type 0} (b : Bool) (x y : A) → b ≡ true → (if b then x else y) ≡ x
if_yes b x y e = rw e refl

pub and_no : (a b : Bool) → a ≡ false → (a && b) ≡ false
and_no a b e = rw e refl

pub and_yes : (a b : Bool) → a ≡ true → b ≡ true → (a && b) ≡ true
and_yes a b e f = rw (e, f) refl

pub and_right : (a b : Bool) → b ≡ false → (a && b) ≡ false
and_right true b e = e
and_right false b e = refl

pub true_or_false : (b : Bool) → (b ≡ true) ⊎ (b ≡ false)
true_or_false true = inl refl
true_or_false false = inr refl

pub and_off : (ok : ℕ → Bool) (t e : ℕ) → ok e ≡ false → (t == e && ok t) ≡ false
and_off ok t e nay =
    elim (eqb_tells t e) [
      | inl same ↦ and_right (t == e) (ok t) (ap ok same.1 ∙ nay)
      | inr other ↦ and_no (t == e) (ok t) other.0
    ]

module _ {E : Type 0} {R : Ring E} {H : Held E} (laws : RingLaws R H) where
  pub total_is : (n : ℕ) (f : ℕ → E) → IsTrue (R.member (total R n f))
  total_is zero f = laws.zero_is
  total_is (suc n) f = laws.sum_is _ _

  pub total_same : (n : ℕ) (f g : ℕ → E) → ((t : ℕ) → t < n → f t ≡ g t) → total R n f ≡ total R n g
  total_same zero f g h = refl
  total_same (suc n) f g h = ap (λ x. R.sum x (f n)) (total_same n f g (λ t l. h t (omega arith))) ∙ ap (R.sum (total R n g)) (h n (omega arith))

  pub zero-product : (x : E) → R.product R.zero x ≡ R.zero
  zero-product x = laws.product_comm R.zero x ∙ laws.product-zero x

  pub sum-zero_right : (x : E) → IsTrue (R.member x) → R.sum x R.zero ≡ x
  sum-zero_right x m = laws.sum-zero x m

  pub zero-sum : (x : E) → IsTrue (R.member x) → R.sum R.zero x ≡ x
  zero-sum x m = laws.sum_comm R.zero x ∙ laws.sum-zero x m

  pub total_zero : (n : ℕ) → total R n (λ _. R.zero) ≡ R.zero
  total_zero zero = refl
  total_zero (suc n) = laws.sum-zero _ (total_is n _) ∙ total_zero n

  pub total_none : (n : ℕ) (f : ℕ → E) → ((t : ℕ) → t < n → f t ≡ R.zero) → total R n f ≡ R.zero
  total_none n f h = total_same n f (λ _. R.zero) h ∙ total_zero n

  -- (a + b) + (c + d) = (a + c) + (b + d)
  four : (a b c d : E) → R.sum (R.sum a b) (R.sum c d) ≡ R.sum (R.sum a c) (R.sum b d)
  four a b c d =
      laws.sum_assoc a b (R.sum c d)
      ∙ (ap (R.sum a) (sym (laws.sum_assoc b c d) ∙ (ap (λ x. R.sum x d) (laws.sum_comm b c) ∙ laws.sum_assoc c b d))
      ∙ sym (laws.sum_assoc a c (R.sum b d)))

  pub total_sum : (n : ℕ) (f g : ℕ → E) → total R n (λ t. R.sum (f t) (g t)) ≡ R.sum (total R n f) (total R n g)
  total_sum zero f g = sym (laws.sum-zero R.zero laws.zero_is)
  total_sum (suc n) f g = ap (λ x. R.sum x (R.sum (f n) (g n))) (total_sum n f g) ∙ four (total R n f) (total R n g) (f n) (g n)

  pub product-total : (n : ℕ) (x : E) (f : ℕ → E) → R.product x (total R n f) ≡ total R n (λ t. R.product x (f t))
  product-total zero x f = laws.product-zero x
  product-total (suc n) x f = laws.product-sum x (total R n f) (f n) ∙ ap (λ y. R.sum y (R.product x (f n))) (product-total n x f)

  pub total-product : (n : ℕ) (x : E) (f : ℕ → E) → R.product (total R n f) x ≡ total R n (λ t. R.product (f t) x)
  total-product n x f = laws.product_comm _ x ∙ (product-total n x f ∙ total_same n _ _ (λ t _. laws.product_comm x (f t)))

  -- two sums are exchanged
  pub total_swap : (m n : ℕ) (f : ℕ → ℕ → E) → total R m (λ s. total R n (λ t. f s t)) ≡ total R n (λ t. total R m (λ s. f s t))
  total_swap zero n f = sym (total_zero n)
  total_swap (suc m) n f = ap (λ x. R.sum x (total R n (f m))) (total_swap m n f) ∙ sym (total_sum n (λ t. total R m (λ s. f s t)) (f m))

  pub product_left : (x y z : E) → R.product x (R.product y z) ≡ R.product y (R.product x z)
  product_left x y z = sym (laws.product_assoc x y z) ∙ (ap (λ w. R.product w z) (laws.product_comm x y) ∙ laws.product_assoc y x z)

  -- a sum with one term that isn't zero
  pub one_term : (n e : ℕ) (f : ℕ → E) → ((t : ℕ) → t < n → (t ≡ e → ⊥) → f t ≡ R.zero) → e < n → IsTrue (R.member (f e)) → total R n f ≡ f e
  one_term zero e f none h m = absurd (omega arith)
  one_term (suc n) e f none h m =
      elim (leb_tells n e) [
        | inl last ↦
            let same : n ≡ e = omega arith in
            ap₂ R.sum (total_none n f (λ t l. none t (omega arith) (λ k. omega arith))) (ap f same) ∙ zero-sum (f e) m
        | inr below ↦
            ap (R.sum (total R n f)) (none n (omega arith) (λ k. omega arith))
            ∙ (laws.sum-zero _ (total_is n f) ∙ one_term n e f (λ t l. none t (omega arith)) below.1 m)
      ]

  pub product-mark_no : (b : Bool) (x : E) → b ≡ false → R.product x (if b then R.one else R.zero) ≡ R.zero
  product-mark_no b x e = ap (R.product x) (if_no b R.one R.zero e) ∙ laws.product-zero x

  pub product-mark_yes : (b : Bool) (x : E) → b ≡ true → IsTrue (R.member x) → R.product x (if b then R.one else R.zero) ≡ x
  product-mark_yes b x e m = ap (R.product x) (if_yes b R.one R.zero e) ∙ laws.product-one x m

  -- the term at e, picked out by a mark that also asks whether e is allowed
  pub picked : (n e : ℕ) (ok : ℕ → Bool) (Z : ℕ → E) → IsTrue (R.member (Z e)) → (ok e ≡ false → Z e ≡ R.zero) → (ok e ≡ true → e < n)
      → total R n (λ t. R.product (Z t) (if t == e && ok t then R.one else R.zero)) ≡ Z e
  picked n e ok Z m off below =
      elim (true_or_false (ok e)) [
        | inl aye ↦
            one_term n e _ (λ t l ne. product-mark_no (t == e && ok t) (Z t) (and_no (t == e) (ok t) (test_false t e ne))) (below aye) (laws.product_is _ _)
            ∙ product-mark_yes (e == e && ok e) (Z e) (and_yes (e == e) (ok e) (test_true e e refl) aye) m
        | inr nay ↦
            total_none n _ (λ t l. product-mark_no (t == e && ok t) (Z t) (and_off ok t e nay)) ∙ sym (off nay)
      ]

  -- Where F is an inverse of G at the allowed places, going over by F and back by G is nothing.
  pub over_and_back : (n e : ℕ) (ok : ℕ → Bool) (F G : ℕ → ℕ → E) (X : ℕ → E)
      → ((g : ℕ) → total R n (λ f. R.product (F e f) (G f g)) ≡ (if g == e && ok g then R.one else R.zero))
      → IsTrue (R.member (X e)) → (ok e ≡ false → X e ≡ R.zero) → (ok e ≡ true → e < n)
      → total R n (λ f. R.product (F e f) (total R n (λ g. R.product (G f g) (X g)))) ≡ X e
  over_and_back n e ok F G X inverse m off below =
      total_same n _ (λ f. total R n (λ g. R.product (X g) (R.product (F e f) (G f g)))) (λ f _.
      product-total n (F e f) (λ g. R.product (G f g) (X g)) ∙ total_same n _ _ (λ g _. sym (laws.product_assoc (F e f) (G f g) (X g)) ∙ laws.product_comm (R.product (F e f) (G f g)) (X g)))
      ∙ (total_swap n n (λ f g. R.product (X g) (R.product (F e f) (G f g)))
      ∙ (total_same n _ (λ g. R.product (X g) (if g == e && ok g then R.one else R.zero)) (λ g l.
      sym (product-total n (X g) (λ f. R.product (F e f) (G f g))) ∙ ap (R.product (X g)) (inverse g))
      ∙ picked n e ok X m off below))

  -- So an equation is solved for what stands under a sum.
  pub solved : (n e : ℕ) (ok : ℕ → Bool) (F G : ℕ → ℕ → E) (X Y : ℕ → E)
      → ((g : ℕ) → total R n (λ f. R.product (F e f) (G f g)) ≡ (if g == e && ok g then R.one else R.zero))
      → IsTrue (R.member (X e)) → (ok e ≡ false → X e ≡ R.zero) → (ok e ≡ true → e < n)
      → ((f : ℕ) → Y f ≡ total R n (λ g. R.product (G f g) (X g)))
      → X e ≡ total R n (λ f. R.product (F e f) (Y f))
  solved n e ok F G X Y inverse m off below is =
      sym (over_and_back n e ok F G X inverse m off below) ∙ total_same n _ _ (λ f _. ap (R.product (F e f)) (sym (is f)))

  -- the same where the mark names the place first
  pub picked_at : (n e : ℕ) (b : Bool) (Z : ℕ → E) → IsTrue (R.member (Z e)) → (b ≡ false → Z e ≡ R.zero) → (b ≡ true → e < n)
      → total R n (λ t. R.product (Z t) (if e == t && b then R.one else R.zero)) ≡ Z e
  picked_at n e b Z m off below =
      elim (true_or_false b) [
        | inl aye ↦
            one_term n e _ (λ t l ne. product-mark_no (e == t && b) (Z t) (and_no (e == t) b (test_false e t (λ k. ne (sym k))))) (below aye) (laws.product_is _ _)
            ∙ product-mark_yes (e == e && b) (Z e) (and_yes (e == e) b (test_true e e refl) aye) m
        | inr nay ↦
            total_none n _ (λ t l. product-mark_no (e == t && b) (Z t) (and_right (e == t) b nay)) ∙ sym (off nay)
      ]

  pub sum_over_is : {A : Type 0} (f : A → E) (xs : List A) → IsTrue (R.member (sum_over R f xs))
  sum_over_is f [] = laws.zero_is
  sum_over_is f (x ∷ xs) = laws.sum_is _ _

  -- a sum over a list in two pieces
  pub sum_over-append : {A : Type 0} (f : A → E) (xs ys : List A) → sum_over R f (xs ++ ys) ≡ R.sum (sum_over R f xs) (sum_over R f ys)
  sum_over-append f [] ys = sym (zero-sum _ (sum_over_is f ys))
  sum_over-append f (x ∷ xs) ys = ap (R.sum (f x)) (sum_over-append f xs ys) ∙ sym (laws.sum_assoc (f x) (sum_over R f xs) (sum_over R f ys))

  -- a term on both sides may be taken away
  less_term : (x y z : E) → IsTrue (R.member x) → IsTrue (R.member y) → R.sum x z ≡ R.sum y z → x ≡ y
  less_term x y z in_x in_y e =
      sym (back x in_x) ∙ ap (λ w. R.sum w (R.negative z)) e ∙ back y in_y
    where
      back : (w : E) → IsTrue (R.member w) → R.sum (R.sum w z) (R.negative z) ≡ w
      back w m = laws.sum_assoc w z (R.negative z) ∙ ap (R.sum w) (laws.sum-negative z) ∙ laws.sum-zero w m

  -- (a + c) + b = (b + c) + a
  ends_swap : (a b c : E) → R.sum (R.sum a c) b ≡ R.sum (R.sum b c) a
  ends_swap a b c =
      laws.sum_assoc a c b ∙ ap (R.sum a) (laws.sum_comm c b) ∙ laws.sum_comm a (R.sum b c)

  -- one item put in the place of another
  sum_over-set : {A : Type 0} (f : A → E) (xs : List A) (i : ℕ) (v d : A) → i < length xs → R.sum (sum_over R f (set xs i v)) (f (get_or xs i d)) ≡ R.sum (sum_over R f xs) (f v)
  sum_over-set f [] i v d lt = absurd (omega arith)
  sum_over-set f (x ∷ xs) zero v d lt = ends_swap (f v) (f x) (sum_over R f xs)
  sum_over-set f (x ∷ xs) (suc i) v d lt =
      laws.sum_assoc (f x) (sum_over R f (set xs i v)) (f (get_or xs i d))
      ∙ ap (R.sum (f x)) (sum_over-set f xs i v d (omega arith)) ∙ sym (laws.sum_assoc (f x) (sum_over R f xs) (f v))

  -- two items exchanged
  sum_over-swap : {A : Type 0} (f : A → E) (xs : List A) (i j : ℕ) → i < length xs → j < length xs → sum_over R f (swap xs i j) ≡ sum_over R f xs
  sum_over-swap f [] i j li lj = absurd (omega arith)
  sum_over-swap {A} f (x ∷ rest) i j li lj =
      let xs : List A = x ∷ rest in
      let once : List A = set xs i (get_or xs j x) in
      let there : get_or once j x ≡ get_or xs j x = kept xs i j x li in
      let first = sum_over-set f xs i (get_or xs j x) x li in
      let second = sum_over-set f once j (get_or xs i x) x (omega (arith, length-set xs i (get_or xs j x))) in
      let same : R.sum (sum_over R f (set once j (get_or xs i x))) (f (get_or xs j x)) ≡ R.sum (sum_over R f xs) (f (get_or xs j x)) =
      ap (λ w. R.sum (sum_over R f (set once j (get_or xs i x))) (f w)) (sym there) ∙ second ∙ first in
      ap (sum_over R f) (sym (swap_is xs i j x li lj)) ∙ less_term _ _ (f (get_or xs j x)) (sum_over_is f _) (sum_over_is f xs) same
    where
      kept : {A : Type 0} (xs : List A) (i j : ℕ) (d : A) → i < length xs → get_or (set xs i (get_or xs j d)) j d ≡ get_or xs j d
      kept xs i j d li =
          elim (cases_eq j i) [
            | inl e ↦ ap (λ n. get_or (set xs i (get_or xs j d)) n d) e ∙ get_or-set_same xs i (get_or xs j d) d li
            | inr ne ↦ get_or-set_other xs i j (get_or xs j d) d ne
          ]

  -- the order of the items is free
  pub sum_over-order : (A : Type 0) → OrderIsFree A R
  sum_over-order A = record {
    reordered = λ f xs ys. IsPermutation-keeps xs (λ l. sum_over R f l ≡ sum_over R f xs) refl (λ l i j li lj h. sum_over-swap f l i j li lj ∙ h) ys;
    pieces = λ f xs ys. sum_over-append f xs ys;
  }
