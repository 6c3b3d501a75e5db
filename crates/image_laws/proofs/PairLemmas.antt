-- The labels of a pair, and counts and sums over all pairs.
use Rattle.std.proofs.Common.{◌≡◌, ℕ, zero, suc, ◌+◌, ◌*◌, ◌<◌, ◌≤◌, Bool, true, false, ◌&&◌, ◌||◌, ◌==◌, ◌⊎◌, Some, None, refl, ap, ap₂, sym, subst, ◌∙◌, arith, inl, inr, true≢false, add-zero}
use Rattle.std.specs.Prelude.{◌/◌, ◌%◌, if◌then◌else◌, unwrap_or}
use Rattle.std.proofs.Math.Nat.{div-lt_iff_lt-mul, zero-div, zero-mod}
use Rattle.std.proofs.lemmas.Nat.{div-mul-add, mod-mul-add, div-add-mod'}
use Rattle.std.proofs.lemmas.Bool.{eqb-true}
use Rattle.std.proofs.lemmas.Bool.Decides.{eqb_tells}
use Rattle.ring_laws.specs.Ring.{Ring, Held, RingLaws}
use Rattle.ring_laws.specs.Sums.{total}
use Rattle.ring_laws.proofs.SumLemmas.{test_true, and_no, and_right, and_yes, true_or_false, total_is, total_same, product-total, total-product, product_left, zero-product}
use Rattle.fusion_rules.specs.First.{first_from}
use Rattle.fusion_rules.specs.Check.{IsDual, count_below, dual_of}

-- a pair of labels is a label
pub first_low : (M K a : ℕ) → 0 < K → a < M * K → a / K < M
first_low M K a some low = (div-lt_iff_lt-mul some).1 low

pub pair_low : (M K i j : ℕ) → i < M → j < K → i * K + j < M * K
pair_low M K i j li lj = (div-lt_iff_lt-mul (omega arith)).0 (subst (λ q. q < M) (sym (div-mul-add i K j lj)) li)

-- two labels are the same where both of the pair are
pub pair_same : (K a b : ℕ) → a / K ≡ b / K → a % K ≡ b % K → a ≡ b
pair_same K a b first second = sym (div-add-mod' a K) ∙ (ap₂ (λ q r. q * K + r) first second ∙ div-add-mod' b K)

pub pair_test : (K a b : ℕ) → (a == b) ≡ (a / K == b / K && a % K == b % K)
pair_test K a b =
    elim (eqb_tells a b) [
      | inl same ↦ same.0 ∙ sym (and_yes _ _ (test_true (a / K) (b / K) (ap (λ n. n / K) same.1)) (test_true (a % K) (b % K) (ap (λ n. n % K) same.1)))
      | inr apart ↦ apart.0 ∙ sym (elim (eqb_tells (a / K) (b / K)) [
        | inr first ↦ and_no (a / K == b / K) (a % K == b % K) first.0
        | inl first ↦ elim (eqb_tells (a % K) (b % K)) [
          | inr second ↦ and_right (a / K == b / K) (a % K == b % K) second.0
          | inl second ↦ absurd (apart.1 (pair_same K a b first.1 second.1))
        ]
      ])
    ]

-- (p and q) and (r and s) is (p and r) and (q and s)
pub and_four : (p q r s : Bool) → ((p && q) && (r && s)) ≡ ((p && r) && (q && s))
and_four true true r s = refl
and_four true false true s = refl
and_four true false false s = refl
and_four false q r s = refl

-- two tests at each of four vertices
pub and_eight : (p q r s t u v w : Bool) → ((p && q) && ((r && s) && ((t && u) && (v && w)))) ≡ ((p && (r && (t && v))) && (q && (s && (u && w))))
and_eight p q r s t u v w =
    ap (λ b. (p && q) && ((r && s) && b)) (and_four t u v w)
    ∙ (ap (λ b. (p && q) && b) (and_four r s (t && v) (u && w)) ∙ and_four p q (r && (t && v)) (s && (u && w)))

-- one of two tests fails
pub and_fails : (p q : Bool) → (p && q) ≡ false → (p ≡ false) ⊎ (q ≡ false)
and_fails true q off = inr off
and_fails false q off = inl refl

-- what each of two tests says
pub or_each : (p q r s : Bool) → (p ≡ true → r ≡ true) → (q ≡ true → s ≡ true) → (p || q) ≡ true → (r || s) ≡ true
or_each true q r s first second on = rw (first refl) refl
or_each false q true s first second on = refl
or_each false q false s first second on = second on

-- the unit is the pair of both units
pub first_unit : (K a : ℕ) → (a == 0) ≡ true → (a / K == 0) ≡ true
first_unit K a is = test_true (a / K) 0 (ap (λ n. n / K) (eqb-true a 0 is) ∙ zero-div K)

pub second_unit : (K a : ℕ) → (a == 0) ≡ true → (a % K == 0) ≡ true
second_unit K a is = test_true (a % K) 0 (ap (λ n. n % K) (eqb-true a 0 is) ∙ zero-mod K)

-- a count over the labels below m + n
count_parts : (m n : ℕ) (test : ℕ → Bool) → count_below (m + n) test ≡ count_below m test + count_below n (λ j. test (m + j))
count_parts m zero test = ap (λ (k : ℕ). count_below k test) (add-zero m) ∙ sym (add-zero _)
count_parts m (suc n) test =
    let next : m + suc n ≡ suc (m + n) = omega arith in
    let before = count_parts m n test in
    let now : ℕ = if test (m + n) then 1 else 0 in
    ap (λ (k : ℕ). count_below k test) next ∙ (ap (λ (k : ℕ). k + now) before ∙ regroup (count_below m test) (count_below n (λ j. test (m + j))) now)
  where
    regroup : (a b c : ℕ) → a + b + c ≡ a + (b + c)
    regroup a b c = omega arith

pub count_same : (n : ℕ) (test other : ℕ → Bool) → ((t : ℕ) → t < n → test t ≡ other t) → count_below n test ≡ count_below n other
count_same zero test other same = refl
count_same (suc n) test other same =
    ap₂ (λ (k : ℕ) (b : Bool). k + (if b then 1 else 0)) (count_same n test other (λ t l. same t (omega arith))) (same n (omega arith))

count_with : (n : ℕ) (b : Bool) (test : ℕ → Bool) → count_below n (λ j. b && test j) ≡ (if b then 1 else 0) * count_below n test
count_with n true test = omega arith
count_with zero false test = omega arith
count_with (suc n) false test = ap (λ (k : ℕ). k + 0) (count_with n false test) ∙ omega arith

-- a test of pairs that asks each label alone passes as often as both numbers multiplied
pub pair_count : (M K : ℕ) (g h : ℕ → Bool) → count_below (M * K) (λ e. g (e / K) && h (e % K)) ≡ count_below M g * count_below K h
pair_count zero K g h = ap (λ (k : ℕ). count_below k (λ e. g (e / K) && h (e % K))) (let none : zero * K ≡ 0 = omega arith in none) ∙ omega arith
pair_count (suc M) K g h =
    let next : suc M * K ≡ M * K + K = omega arith in
    let test : ℕ → Bool = λ e. g (e / K) && h (e % K) in
    let row : count_below K (λ j. test (M * K + j)) ≡ (if g M then 1 else 0) * count_below K h =
    count_same K _ _ (λ j lj. ap₂ (λ (q r : ℕ). g q && h r) (div-mul-add M K j lj) (mod-mul-add M K j lj)) ∙ count_with K (g M) h in
    ap (λ (k : ℕ). count_below k test) next ∙ (count_parts (M * K) K test ∙ (ap₂ (λ (k l : ℕ). k + l) (pair_count M K g h) row ∙ regroup (count_below M g) (if g M then 1 else 0) (count_below K h)))
  where
    regroup : (a b c : ℕ) → a * c + b * c ≡ (a + b) * c
    regroup a b c = omega arith

module _ {E : Type 0} {R : Ring E} {H : Held E} (laws : RingLaws R H) where
  -- a sum over the labels below m + n
  total_parts : (m n : ℕ) (f : ℕ → E) → total R (m + n) f ≡ R.sum (total R m f) (total R n (λ j. f (m + j)))
  total_parts m zero f = ap (λ (k : ℕ). total R k f) (add-zero m) ∙ sym (laws.sum-zero _ (total_is laws m f))
  total_parts m (suc n) f =
      let next : m + suc n ≡ suc (m + n) = omega arith in
      ap (λ (k : ℕ). total R k f) next ∙ (ap (λ y. R.sum y (f (m + n))) (total_parts m n f) ∙ laws.sum_assoc _ _ _)

  -- a sum over pairs is a sum of sums
  total_rows : (M K : ℕ) (f : ℕ → E) → total R (M * K) f ≡ total R M (λ i. total R K (λ j. f (i * K + j)))
  total_rows zero K f = ap (λ (k : ℕ). total R k f) (let none : zero * K ≡ 0 = omega arith in none)
  total_rows (suc M) K f =
      let next : suc M * K ≡ M * K + K = omega arith in
      ap (λ (k : ℕ). total R k f) next ∙ (total_parts (M * K) K f ∙ ap (λ y. R.sum y (total R K (λ j. f (M * K + j)))) (total_rows M K f))

  -- the sum over pairs of products of two terms is the product of both sums
  pub pair_total : (M K : ℕ) (g h : ℕ → E) → total R (M * K) (λ e. R.product (g (e / K)) (h (e % K))) ≡ R.product (total R M g) (total R K h)
  pair_total M K g h =
      total_rows M K (λ e. R.product (g (e / K)) (h (e % K)))
      ∙ (total_same laws M _ (λ i. R.product (g i) (total R K h)) (λ i _.
      total_same laws K _ (λ j. R.product (g i) (h j)) (λ j lj. ap₂ (λ (q r : ℕ). R.product (g q) (h r)) (div-mul-add i K j lj) (mod-mul-add i K j lj))
      ∙ sym (product-total laws K (g i) h))
      ∙ sym (total-product laws M (total R K h) g))

  abbrev x : E → E → E
  x = R.product

  -- products of pairs are pairs of products
  pub cross : (a b c d : E) → x (x a b) (x c d) ≡ x (x a c) (x b d)
  cross a b c d = laws.product_assoc a b (x c d) ∙ (ap (x a) (product_left laws b c d) ∙ sym (laws.product_assoc a c (x b d)))

  pub cross_three : (a b c d e f : E) → x (x (x a b) (x c d)) (x e f) ≡ x (x (x a c) e) (x (x b d) f)
  cross_three a b c d e f = ap (λ y. x y (x e f)) (cross a b c d) ∙ cross (x a c) (x b d) e f

  pub cross_four : (a b c d e f g h : E) → x (x (x (x a b) (x c d)) (x e f)) (x g h) ≡ x (x (x (x a c) e) g) (x (x (x b d) f) h)
  cross_four a b c d e f g h = ap (λ y. x y (x g h)) (cross_three a b c d e f) ∙ cross (x (x a c) e) (x (x b d) f) g h

  pub cross_five : (a b c d e f g h i j : E) → x (x (x (x (x a b) (x c d)) (x e f)) (x g h)) (x i j) ≡ x (x (x (x (x a c) e) g) i) (x (x (x (x b d) f) h) j)
  cross_five a b c d e f g h i j = ap (λ y. x y (x i j)) (cross_four a b c d e f g h) ∙ cross (x (x (x a c) e) g) (x (x (x b d) f) h) i j

  -- what both tests say
  pub both_if : (p q : Bool) (u v : E) → x (if p then u else R.zero) (if q then v else R.zero) ≡ (if p && q then x u v else R.zero)
  both_if true true u v = refl
  both_if true false u v = laws.product-zero u
  both_if false q u v = zero-product laws _

  -- where one of both is zero
  pub both_off : (p q : Bool) (u v : E) → (p ≡ false → u ≡ R.zero) → (q ≡ false → v ≡ R.zero) → (p && q) ≡ false → x u v ≡ R.zero
  both_off p q u v first second off =
      elim (and_fails p q off) [
        | inl none ↦ ap (λ y. x y v) (first none) ∙ zero-product laws v
        | inr none ↦ ap (x u) (second none) ∙ laws.product-zero u
      ]

  pub both_one : (u v : E) → u ≡ R.one → v ≡ R.one → x u v ≡ R.one
  both_one u v first second = ap₂ x first second ∙ laws.product-one R.one laws.one_is

-- the search for a dual stops at it
first_is : (test : ℕ → Bool) (b t n : ℕ) → t ≤ b → b < t + n → test b ≡ true → ((x : ℕ) → x < t + n → test x ≡ true → x ≡ b)
    → first_from (λ x. if test x then Some x else None) t n ≡ Some b
first_is test b t zero from below is single = absurd (omega arith)
first_is test b t (suc n) from below is single =
    elim (true_or_false (test t)) [
      | inl here ↦ rw here (ap Some (single t (omega arith) here))
      | inr none ↦ rw none (first_is test b (t + 1) n (later none) (omega arith) is (λ x lx. single x (omega arith)))
    ]
  where
    later : test t ≡ false → t + 1 ≤ b
    later none = elim (eqb_tells t b) [
      | inl same ↦ absurd (true≢false (sym is ∙ (ap test (sym same.1) ∙ none)))
      | inr apart ↦ (let other = apart.1 in omega arith)
    ]

pub dual_found : (n : ℕ) (fuse : ℕ → ℕ → ℕ → Bool) (a b : ℕ) → IsDual n fuse a b → dual_of n fuse a ≡ b
dual_found n fuse a b dual =
    ap (λ o. unwrap_or o 0) (first_is (λ x. fuse a x 0) b 0 n (omega arith) (omega (arith, dual.label)) dual.fuses (λ x lx. dual.single x (omega arith)))
