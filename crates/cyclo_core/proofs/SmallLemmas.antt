-- Sums of products of small coefficients, and what their powers weigh.
use Rattle.std.proofs.Common.{◌≡◌, ◌≢◌, ℕ, zero, suc, ◌+◌, ◌*◌, ◌-◌, ◌%◌, ◌^◌, ◌<◌, ◌≤◌, List, length, refl, sym, ap, ap₂, ◌∙◌, subst, arith, inl, inr, get_or-set_other, get_or-set_same}
use Rattle.std.specs.Prelude.{ℤ, pos, ◌+ℤ◌, ◌*ℤ◌, set, unsigned_abs, replicate}
use Rattle.std.proofs.lemmas.Int.{ints}
use Rattle.std.proofs.lemmas.Bool.{cases_eq, cases_lt}
use Rattle.std.proofs.lemmas.List.{get_or-replicate, get_or_past}
use Rattle.std.proofs.Math.Nat.{mul-le-mul, le_refl}
use Rattle.ring_laws.specs.IntLaws.{mul_comm, mul-add, add_assoc}
use Rattle.poly_core.specs.Combination.{Sequence}
use Rattle.poly_core.specs.Companion.{IsBelow, power, expand}
use Rattle.poly_core.specs.Good.{phi}
use Rattle.poly_core.specs.Image.{power-mod}
use Rattle.poly_core.specs.Rho.{degree, order, rho}
use Rattle.poly_core.specs.Roots.{root_at, IsGood-root_at}
use Rattle.poly_core.specs.Table.{at}
use Rattle.poly_core.proofs.PowerLemmas.{rho_past}
use Rattle.poly_core.proofs.RhoLemmas.{degree_small, rho_tiny}
use Rattle.cyclo_core.specs.Convolution.{row_term, row_sum, weight, weighed, column, AreUpTo}
use Rattle.cyclo_core.specs.Ratio.{product_term, product_at, product_size_term, product_size}
use Rattle.cyclo_core.specs.RingAt.{comb-sum, int_sum-same}
use Rattle.cyclo_core.specs.Sums.{int_sum, nat_sum}
use Rattle.cyclo_core.proofs.SumLemmas.{int_sum-more, int_sum-none}

-- ---- sums
plus_none : (v : ℤ) → v +ℤ pos 0 ≡ v
plus_none v = omega (arith, ints)

times_none : (v : ℤ) → v *ℤ pos 0 ≡ pos 0
times_none v = omega (arith, ints)

none_times : (v : ℤ) → pos 0 *ℤ v ≡ pos 0
none_times v = omega (arith, ints)

zero_sum : (n : ℕ) (f : ℕ → ℤ) → ((k : ℕ) → f k ≡ pos 0) → int_sum n f ≡ pos 0
unfolding int_sum
zero_sum zero f h = refl
zero_sum (suc n) f h = ap₂ ◌+ℤ◌ (zero_sum n f h) (h n)

-- terms that are zero from m on
int_sum-past : (m n : ℕ) (f : ℕ → ℤ) → ((k : ℕ) → m ≤ k → f k ≡ pos 0) → int_sum (m + n) f ≡ int_sum m f
unfolding int_sum
int_sum-past m zero f h = let e : m + 0 ≡ m = omega arith in ap (λ k. int_sum k f) e
int_sum-past m (suc n) f h =
    let e : m + suc n ≡ suc (m + n) = omega arith in
    ap (λ k. int_sum k f) e ∙ ap₂ ◌+ℤ◌ (int_sum-past m n f h) (h (m + n) (omega arith)) ∙ plus_none (int_sum m f)

regroup : (s d t : ℤ) → (s +ℤ d) +ℤ t ≡ (s +ℤ t) +ℤ d
regroup s d t = omega (arith, ints)

regroup_last : (s t d : ℤ) → s +ℤ (t +ℤ d) ≡ (s +ℤ t) +ℤ d
regroup_last s t d = omega (arith, ints)

-- all terms the same but one
int_sum-one : (n i : ℕ) (f g : ℕ → ℤ) (d : ℤ) → i < n → ((k : ℕ) → k ≢ i → f k ≡ g k) → f i ≡ g i +ℤ d → int_sum n f ≡ int_sum n g +ℤ d
unfolding int_sum
int_sum-one zero i f g d lt other here = absurd (omega arith)
int_sum-one (suc n) i f g d lt other here =
    elim (cases_eq i n) [
      | inl e ↦
          let last : f n ≡ g n +ℤ d = rw (sym e) here in
          ap₂ ◌+ℤ◌ (int_sum-same n f g (λ k below. other k (omega arith))) last ∙ regroup_last (int_sum n g) (g n) d
      | inr ne ↦
          let ih = int_sum-one n i f g d (omega arith) other here in
          ap₂ ◌+ℤ◌ ih (other n (λ same. ne (sym same))) ∙ regroup (int_sum n g) d (g n)
    ]

nat_sum-most : (n b : ℕ) (f : ℕ → ℕ) → ((k : ℕ) → k < n → f k ≤ b) → nat_sum n f ≤ n * b
unfolding nat_sum
nat_sum-most zero b f h = omega arith
nat_sum-most (suc n) b f h = omega (arith, nat_sum-most n b f (λ k lt. h k (omega arith)), h n (omega arith))

-- ---- the convolution
add_mul : (c t r : ℤ) → (c +ℤ t) *ℤ r ≡ c *ℤ r +ℤ t *ℤ r
add_mul c t r = mul_comm (c +ℤ t) r ∙ mul-add r c t ∙ ap₂ ◌+ℤ◌ (mul_comm r c) (mul_comm r t)

-- one place of c grows by t
pub weighed_set : (c : List ℤ) (i : ℕ) (v t : ℤ) (r : Sequence) → i < 32 → i < length c → v ≡ at c i +ℤ t → weighed (set c i v) r ≡ weighed c r +ℤ t *ℤ r i
weighed_set c i v t r lt long is =
    int_sum-one 32 i (weight (at (set c i v)) r) (weight (at c) r) (t *ℤ r i) lt
    (λ k ne. ap (λ z. z *ℤ r k) (get_or-set_other c i k v (pos 0) ne))
    (ap (λ z. z *ℤ r i) (get_or-set_same c i v (pos 0) long ∙ is) ∙ add_mul (at c i) t (r i))

-- a coefficient that is zero has no products
pub row_none : (x y r : Sequence) (a : ℕ) (v : ℤ) → x a ≡ pos 0 → v ≡ v +ℤ row_sum x y r a
row_none x y r a v e =
    let term : (b : ℕ) → row_term (x a) y r a b ≡ pos 0 = λ b. ap (λ z. (z *ℤ y b) *ℤ r (a + b)) e ∙ ap (λ z. z *ℤ r (a + b)) (none_times (y b)) ∙ none_times (r (a + b)) in
    sym (ap (λ z. v +ℤ z) (zero_sum 16 (row_term (x a) y r a) term) ∙ plus_none v)

-- the products of a coefficient with as many others as there are
pub row_cut : (end a : ℕ) (x y r : Sequence) → end ≤ 16 → ((k : ℕ) → end ≤ k → y k ≡ pos 0) → int_sum end (row_term (x a) y r a) ≡ row_sum x y r a
row_cut end a x y r few ends =
    let whole : end + (16 - end) ≡ 16 = omega (arith, few) in
    let past : (b : ℕ) → end ≤ b → row_term (x a) y r a b ≡ pos 0 =
    λ b le. ap (λ z. (x a *ℤ z) *ℤ r (a + b)) (ends b le) ∙ ap (λ z. z *ℤ r (a + b)) (times_none (x a)) ∙ none_times (r (a + b)) in
    sym (ap (λ m. int_sum m (row_term (x a) y r a)) (sym whole) ∙ int_sum-past end (16 - end) (row_term (x a) y r a) past)

-- coefficients that are zero from some place on
pub weighed_cut : (end : ℕ) (c : List ℤ) (r : Sequence) → end ≤ 32 → ((k : ℕ) → end ≤ k → at c k ≡ pos 0) → int_sum end (weight (at c) r) ≡ weighed c r
weighed_cut end c r few ends =
    let whole : end + (32 - end) ≡ 32 = omega (arith, few) in
    let past : (k : ℕ) → end ≤ k → weight (at c) r k ≡ pos 0 = λ k le. ap (λ z. z *ℤ r k) (ends k le) ∙ none_times (r k) in
    sym (ap (λ m. int_sum m (weight (at c) r)) (sym whole) ∙ int_sum-past end (32 - end) (weight (at c) r) past)

-- a loop before its first term
pub none_yet : (v : ℤ) (f : ℕ → ℤ) → v ≡ v +ℤ int_sum 0 f
none_yet v f = sym (ap (λ z. v +ℤ z) (int_sum-none f) ∙ plus_none v)

pub one_more : (v v0 t : ℤ) (f : ℕ → ℤ) (b : ℕ) → v ≡ v0 +ℤ int_sum b f → t ≡ f b → v +ℤ t ≡ v0 +ℤ int_sum (b + 1) f
one_more v v0 t f b p e = ap₂ ◌+ℤ◌ p e ∙ add_assoc v0 (int_sum b f) (f b) ∙ ap (λ z. v0 +ℤ z) (sym (int_sum-more b f))

pub next_sum : (v v0 t : ℤ) (f : ℕ → ℤ) (a : ℕ) → v ≡ v0 +ℤ t → v0 ≡ int_sum a f → t ≡ f a → v ≡ int_sum (a + 1) f
next_sum v v0 t f a e p q = e ∙ ap₂ ◌+ℤ◌ p q ∙ sym (int_sum-more a f)

pub here_fits : (new old : ℤ) (a : ℕ) → unsigned_abs new ≤ unsigned_abs old + 2 ^ 48 → unsigned_abs old ≤ a * 2 ^ 52 → unsigned_abs new ≤ (a + 1) * 2 ^ 52
here_fits new old a h b = omega (arith, h, b)

pub same_bound : (new old : ℤ) (n : ℕ) → new ≡ old → unsigned_abs old ≤ n → unsigned_abs new ≤ n
same_bound new old n e b = rw e b

pub zeros_at : (k : ℕ) → at (replicate 32 (pos 0)) k ≡ pos 0
zeros_at k = elim (cases_lt k 32) [
  | inl lt ↦ get_or-replicate 32 k (pos 0) (pos 0) lt
  | inr past ↦ get_or_past (replicate 32 (pos 0)) k (pos 0) past
]

-- nothing weighs nothing
pub weighed-none : (c : List ℤ) (r : Sequence) → ((k : ℕ) → at c k ≡ pos 0) → weighed c r ≡ pos 0
weighed-none c r h = zero_sum 32 (weight (at c) r) (λ k. ap (λ z. z *ℤ r k) (h k) ∙ none_times (r k))

-- ---- the reduction
-- what a loop has added below place j
pub record IsAdded (before out : List ℤ) (j : ℕ) (t : Sequence) : Type 0 where
  pub value : (k : ℕ) → k < j → at out k ≡ at before k +ℤ t k
  pub ahead : (k : ℕ) → j ≤ k → at out k ≡ at before k
  pub size : (k : ℕ) → unsigned_abs (at out k) ≤ unsigned_abs (at before k) + 2 ^ 56

pub added_more : (before out : List ℤ) (j : ℕ) (v : ℤ) (t : Sequence) → j < length out → v ≡ at out j +ℤ t j → unsigned_abs v ≤ unsigned_abs (at out j) + 2 ^ 56
    → IsAdded before out j t → IsAdded before (set out j v) (j + 1) t
added_more before out j v t lt is size a = record {
  value = λ k h. elim (cases_eq k j) [
    | inl e ↦ subst (λ i. at (set out j v) i ≡ at before i +ℤ t i) (sym e) (get_or-set_same out j v (pos 0) lt ∙ is ∙ ap (λ z. z +ℤ t j) (a.ahead j (le_refl j)))
    | inr ne ↦ get_or-set_other out j k v (pos 0) ne ∙ a.value k (omega arith)
  ];
  ahead = λ k h. let ne : k ≢ j = omega arith in get_or-set_other out j k v (pos 0) ne ∙ a.ahead k (omega arith);
  size = λ k. elim (cases_eq k j) [
    | inl e ↦
        let here : unsigned_abs v ≤ unsigned_abs (at before j) + 2 ^ 56 = subst (λ z. unsigned_abs v ≤ unsigned_abs z + 2 ^ 56) (a.ahead j (le_refl j)) size in
        subst (λ i. unsigned_abs (at (set out j v) i) ≤ unsigned_abs (at before i) + 2 ^ 56) (sym e) (same_bound _ v _ (get_or-set_same out j v (pos 0) lt) here)
    | inr ne ↦ same_bound _ (at out k) _ (get_or-set_other out j k v (pos 0) ne) (a.size k)
  ];
}

pub rho_mod : (N k : ℕ) → rho N (k % order N) ≡ rho N k
unfolding rho order
rho_mod N k =
    let r = root_at N in
    let g = IsGood-root_at N in
    power-mod r.less_one (phi r) r.order g.round k

-- the coefficients below phi(N) are those of the sum of as many powers
pub heads_are : (N : ℕ) (c out : List ℤ) → ((j : ℕ) → j < degree N → at out j ≡ at c j) → ((j : ℕ) → degree N ≤ j → at out j ≡ pos 0)
    → (j : ℕ) → at out j ≡ int_sum (degree N) (weight (at c) (column N j))
unfolding rho degree
heads_are N c out low high j =
    let r = root_at N in
    let d : ℕ = r.less_one in
    let P = phi r in
    let below : IsBelow (suc d) (at out) = record { past = high } in
    sym (ap (λ (f : Sequence). f j) (expand d P (at out) below))
    ∙ comb-sum (suc d) (at out) (power d P) j
    ∙ int_sum-same (suc d) _ _ (λ a lt. ap (λ z. z *ℤ power d P a j) (low a lt))

pub folded_past : (N : ℕ) (c : List ℤ) (j : ℕ) → degree N ≤ j → weighed c (column N j) ≡ pos 0
folded_past N c j le = zero_sum 32 (weight (at c) (column N j)) (λ k. ap (λ z. at c k *ℤ z) (rho_past N k j le) ∙ times_none (at c k))

-- ---- the product
-- what was narrowed: the numbers below phi(N), and zeros from there on
pub record IsCut (n : ℕ) (x xs : List ℤ) : Type 0 where
  pub value : (k : ℕ) → k < n → at xs k ≡ at x k
  pub rest : (k : ℕ) → n ≤ k → at xs k ≡ pos 0

row_is : (N : ℕ) (x y xs ys : List ℤ) (j a : ℕ) → IsCut (degree N) x xs → IsCut (degree N) y ys → a < degree N
    → row_sum (at xs) (at ys) (column N j) a ≡ int_sum (degree N) (product_term N (at x) (at y) j a)
row_is N x y xs ys j a cut_x cut_y lt =
    let n = degree N in
    sym (row_cut n a (at xs) (at ys) (column N j) (degree_small N) cut_y.rest)
    ∙ int_sum-same n _ _ (λ b below.
    ap₂ (λ u v. (u *ℤ v) *ℤ rho N (a + b) j) (cut_x.value a lt) (cut_y.value b below)
    ∙ ap (λ (f : Sequence). (at x a *ℤ at y b) *ℤ f j) (sym (rho_mod N (a + b))))

pub product_is : (N : ℕ) (x y xs ys : List ℤ) (j : ℕ) → IsCut (degree N) x xs → IsCut (degree N) y ys
    → int_sum (degree N) (row_sum (at xs) (at ys) (column N j)) ≡ product_at N (at x) (at y) j
product_is N x y xs ys j cut_x cut_y = int_sum-same (degree N) _ _ (λ a lt. row_is N x y xs ys j a cut_x cut_y lt)

cut_small : (n : ℕ) (x xs : List ℤ) → IsCut n x xs → AreUpTo (2 ^ 24) xs → (k : ℕ) → k < n → unsigned_abs (at x k) ≤ 2 ^ 24
cut_small n x xs cut small k lt = subst (λ z. unsigned_abs z ≤ 2 ^ 24) (cut.value k lt) (small k)

term_fits : (p q r : ℕ) → p ≤ 2 ^ 24 → q ≤ 2 ^ 24 → r ≤ 1 → (p * q) * r ≤ 2 ^ 48
term_fits p q r hp hq hr = mul-le-mul (mul-le-mul hp hq) hr

pub sizes_fit : (N : ℕ) (x y xs ys : List ℤ) (j : ℕ) → IsCut (degree N) x xs → IsCut (degree N) y ys → AreUpTo (2 ^ 24) xs → AreUpTo (2 ^ 24) ys
    → product_size N (at x) (at y) j ≤ 2 ^ 127 - 1
sizes_fit N x y xs ys j cut_x cut_y small_x small_y =
    let n = degree N in
    let row : (a : ℕ) → a < n → nat_sum n (product_size_term N (at x) (at y) j a) ≤ 16 * 2 ^ 48 =
    λ a la. let part = nat_sum-most n (2 ^ 48) (product_size_term N (at x) (at y) j a)
    (λ b lb. term_fits _ _ _ (cut_small n x xs cut_x small_x a la) (cut_small n y ys cut_y small_y b lb) (rho_tiny N ((a + b) % order N) j)) in
    omega (arith, part, degree_small N) in
    let all = nat_sum-most n (16 * 2 ^ 48) (λ a. nat_sum n (product_size_term N (at x) (at y) j a)) row in
    omega (arith, all, degree_small N)
