-- From what the code computes to the ring of a root.
use Rattle.std.proofs.Common.{◌≡◌, ℕ, zero, suc, ◌+◌, ◌*◌, ◌-◌, ◌%◌, ◌/◌, ◌^◌, ◌<◌, ◌≤◌, Bool, ◌&&◌, List, [], ◌∷◌, length, refl, sym, ap, ap₂, ◌∙◌, subst, arith, inl, inr, lit<, lit≤}
use Rattle.std.specs.Prelude.{ℤ, pos, ◌+ℤ◌, ◌*ℤ◌, neg_ℤ, unsigned_abs, IsTrue, ◌↔◌, nat_le, nat_eq, Result, Ok, Err, IsOk, IsErr}
use Rattle.std.proofs.lemmas.Int.{ints}
use Rattle.std.proofs.lemmas.Bool.{cases_lt}
use native.Mathlib.Nat.{zero-div, mul-div_cancel', dvd-mul_right}
use Prim.Native.Nat.{◌∣◌}
use Rattle.ring_laws.specs.IntLaws.{mul_assoc, mul-add, mul_comm}
use Rattle.poly_core.specs.Combination.{Sequence, pointwise}
use Rattle.poly_core.specs.Companion.{IsBelow}
use Rattle.poly_core.specs.Gcd.{gcd, IsGcd-gcd}
use Rattle.poly_core.specs.Rho.{degree, order}
use Rattle.poly_core.specs.Table.{at, all_below, all_below_at, both, past_end}
use Rattle.poly_core.proofs.PowerLemmas.{rho_past}
use Rattle.cyclo_core.specs.Content.{content, quotient, quotient-back, content-divides-first}
use Rattle.cyclo_core.specs.CycloLaws.{in_front, behind, at-tabulate, tabulate-nought, same_number, le_of, test_of, and_true, same_ratio_is}
use Rattle.cyclo_core.specs.Fraction.{IsProper, common-reduce, common_pos, reduce-scale, positive_of, product_pos}
use Rattle.cyclo_core.specs.Image.{image_of, image_over, image_term, image_size, image_fits}
use Rattle.cyclo_core.specs.Layers.{ratio}
use Rattle.cyclo_core.specs.Ratio.{Ratio, IsNumber, most, tabulate, reduced, is_held, held, coefficient, under, product_at, product_term, product_size, conjugate_over, conjugate_term, conjugate_size, sum_size, ring_at}
use Rattle.cyclo_core.specs.Sums.{int_sum}

pub not_both : {T E : Type 0} → (r : Result T E) → IsOk r → IsErr r → ⊥
not_both (Ok x) p q = cc
not_both (Err e) p q = cc

-- ---- tests
pub all_of : (m : ℕ) (p : ℕ → Bool) → ((j : ℕ) → j < m → IsTrue (p j)) → IsTrue (all_below m p)
all_of zero p h = refl
all_of (suc m) p h = and_true (p m) (all_below m p) (h m (omega arith)) (all_of m p (λ j lt. h j (omega arith)))

pub all_fit : (n : ℕ) (size : ℕ → ℕ) → IsTrue (all_below n (λ j. nat_le (size j) most)) ↔ ((j : ℕ) → j < n → size j ≤ 2 ^ 127 - 1)
all_fit n size = (
  λ h j lt. le_of (size j) most (all_below_at n (λ i. nat_le (size i) most) h j lt),
  λ h. all_of n (λ i. nat_le (size i) most) (λ j lt. test_of (size j) most (h j lt)),
)

pub record BothFit (n : ℕ) (size : ℕ → ℕ) (m : ℕ) : Type 0 where
  pub over : (j : ℕ) → j < n → size j ≤ 2 ^ 127 - 1
  pub under : m ≤ 2 ^ 127 - 1

pub both_fit : (n : ℕ) (size : ℕ → ℕ) (m : ℕ) → IsTrue (all_below n (λ j. nat_le (size j) most) && nat_le m most) ↔ BothFit n size m
both_fit n size m = (
  λ h.
      let parts = both (all_below n (λ j. nat_le (size j) most)) (nat_le m most) h in
      record { over = (all_fit n size).0 parts.0; under = le_of m most parts.1 },
  λ h. let over = h.over in let under = h.under in and_true (all_below n (λ j. nat_le (size j) most)) (nat_le m most) ((all_fit n size).1 over) (test_of m most under),
)

pub holds : (xs : List ℤ) (d : ℕ) → IsNumber xs d → IsTrue (held.can_hold (record { numerators = xs; denominator = d }))
unfolding is_held
holds xs d is =
    let small = is.small in
    let bounded = is.bounded in
    (both_fit 16 (λ j. unsigned_abs (at xs j)) d).1 (record { over = λ j lt. small j; under = bounded })

-- ---- reduced forms
pub same_lists : (k : ℕ) (zs : List ℤ) (f : Sequence) → length zs ≡ k → ((j : ℕ) → j < k → at zs j ≡ f j) → zs ≡ tabulate k f
same_lists zero [] f e h = refl
same_lists zero (z ∷ zs) f e h = absurd (omega arith)
same_lists (suc k) [] f e h = absurd (omega arith)
same_lists (suc k) (z ∷ zs) f e h = ap₂ ◌∷◌ (h 0 (omega arith)) (same_lists k zs (λ j. f (suc j)) (omega arith) (λ j lt. h (suc j) (omega arith)))

-- what the code's quotients stand for
pub record IsCancelled (xs : List ℤ) (d : ℕ) (zs : List ℤ) (m : ℕ) : Type 0 where
  pub full : length xs ≡ 16
  pub positive : 0 < d
  pub filled : length zs ≡ 16
  pub over : (j : ℕ) → j < 16 → at zs j ≡ quotient (content d 16 (at xs)) (at xs j)
  pub under : m ≡ d / content d 16 (at xs)

module _ (xs : List ℤ) (d : ℕ) (zs : List ℤ) (m : ℕ) (is : IsCancelled xs d zs m) where
  whole_proper : IsProper 16 (record { over = at xs; under = d })
  whole_proper = let full = is.full in record { positive = is.positive; below = record { past = λ j le. past_end xs j (omega (arith, full)) } }

  pub reduced_value : record { numerators = zs; denominator = m } ≡ reduced (at xs) d
  unfolding reduced
  reduced_value =
      let lists : zs ≡ tabulate 16 (λ j. quotient (content d 16 (at xs)) (at xs j)) = same_lists 16 zs _ is.filled is.over in
      let bottom = is.under in
      λ t. record { numerators = lists t; denominator = bottom t }

  sequence_is : at zs ≡ (λ j. quotient (content d 16 (at xs)) (at xs j))
  sequence_is =
      let full = is.full in
      let filled = is.filled in
      let over = is.over in
      pointwise (λ j. elim (cases_lt j 16) [
        | inl lt ↦ over j lt
        | inr le ↦ past_end zs j (omega (arith, filled)) ∙ sym (ap (quotient (content d 16 (at xs))) (past_end xs j (omega (arith, full))) ∙ ap pos (zero-div _))
      ])

  pub cancelled_lowest : content m 16 (at zs) ≡ 1
  cancelled_lowest = ap₂ (λ (k : ℕ) (f : Sequence). content k 16 f) is.under sequence_is ∙ common-reduce 16 (record { over = at xs; under = d }) whole_proper

  pub cancelled_positive : 0 < m
  cancelled_positive = subst (λ k. 0 < k) (sym is.under) (common_pos 16 (record { over = at xs; under = d }) whole_proper).1

pub content_positive : (d : ℕ) (f : Sequence) → 0 < d → 0 < content d 16 f
content_positive d f lt = (positive_of (content d 16 f) (d / content d 16 f) d lt (mul-div_cancel' _ (content-divides-first d 16 f))).0

-- the reduced form doesn't change where both parts are multiplied
pub reduced-scale : (k : ℕ) (f : Sequence) (d : ℕ) → 0 < k → 0 < d → IsBelow 16 f → reduced (λ j. pos k *ℤ f j) (k * d) ≡ reduced f d
unfolding reduced
reduced-scale k f d some positive below = ap ratio (reduce-scale 16 k (record { over = f; under = d }) some (record { positive = positive; below = below }))

-- ---- values
pub past_members : (N : ℕ) (x : Ratio) → IsTrue ((ring_at N).member x) → (j : ℕ) → degree N ≤ j → at x.numerators j ≡ pos 0
unfolding reduced
past_members N x member j le =
    let is : x ≡ reduced (coefficient N x) (under x) = (same_ratio_is x _).0 member in
    let g : ℕ = content (under x) 16 (coefficient N x) in
    ap (λ (v : Ratio). at v.numerators j) is
    ∙ elim (cases_lt j 16) [
      | inl lt ↦ at-tabulate 16 (λ i. quotient g (coefficient N x i)) j lt ∙ ap (quotient g) (behind (degree N) j (at x.numerators j) (pos 0) le) ∙ ap pos (zero-div _)
      | inr more ↦ past_end (tabulate 16 (λ i. quotient g (coefficient N x i))) j more
    ]

pub coefficient_is : (N : ℕ) (x : Ratio) (j : ℕ) → j < degree N → coefficient N x j ≡ at x.numerators j
coefficient_is N x j lt = in_front (degree N) j (at x.numerators j) (pos 0) lt

pub coefficient_past : (N : ℕ) (x : Ratio) (j : ℕ) → degree N ≤ j → coefficient N x j ≡ pos 0
coefficient_past N x j le = behind (degree N) j (at x.numerators j) (pos 0) le

int_sum-zeros : (k : ℕ) (f : ℕ → ℤ) → ((a : ℕ) → f a ≡ pos 0) → int_sum k f ≡ pos 0
unfolding int_sum
int_sum-zeros zero f h = refl
int_sum-zeros (suc k) f h = ap₂ ◌+ℤ◌ (int_sum-zeros k f h) (h k)

times-zero : (a z : ℤ) → z ≡ pos 0 → a *ℤ z ≡ pos 0
times-zero a z e = ap (λ w. a *ℤ w) e ∙ omega (arith, ints)

pub product_past : (N : ℕ) (x y : Sequence) (j : ℕ) → degree N ≤ j → product_at N x y j ≡ pos 0
product_past N x y j le = int_sum-zeros (degree N) _ (λ a. int_sum-zeros (degree N) (product_term N x y j a) (λ b. times-zero _ _ (rho_past N ((a + b) % order N) j le)))

pub conjugate_past : (N : ℕ) (x : Sequence) (j : ℕ) → degree N ≤ j → conjugate_over N x j ≡ pos 0
conjugate_past N x j le = int_sum-zeros (degree N) (conjugate_term N x j) (λ a. times-zero _ _ (rho_past N ((order N - a) % order N) j le))

pub image_past : (N k : ℕ) (x : Sequence) (j : ℕ) → degree N ≤ j → image_over N k x j ≡ pos 0
image_past N k x j le = int_sum-zeros (degree N) (image_term N k x j) (λ a. times-zero _ _ (rho_past N ((a * k) % order N) j le))

-- sixteen numbers that are those of a sequence below phi(N), and zero from there on
pub filled_is : (N : ℕ) (zs : List ℤ) (f : Sequence) → ((j : ℕ) → j < degree N → at zs j ≡ f j) → ((j : ℕ) → degree N ≤ j → at zs j ≡ pos 0) → ((j : ℕ) → degree N ≤ j → f j ≡ pos 0) → at zs ≡ f
filled_is N zs f low high past =
    pointwise (λ j. elim (cases_lt j (degree N)) [
      | inl lt ↦ low j lt
      | inr le ↦ high j le ∙ sym (past j le)
    ])

under_is : (x : Ratio) → 0 < x.denominator → x.denominator ≡ under x
under_is x lt = omega arith

pub product_value : (N : ℕ) (x y z : Ratio) (nums : List ℤ) (den : ℕ) → 0 < x.denominator → 0 < y.denominator
    → z ≡ reduced (at nums) den
    → ((j : ℕ) → j < degree N → at nums j ≡ product_at N (at x.numerators) (at y.numerators) j)
    → ((j : ℕ) → degree N ≤ j → at nums j ≡ pos 0)
    → den ≡ x.denominator * y.denominator
    → z ≡ (ring_at N).product x y
product_value N x y z nums den px py is low high bottom =
    is
    ∙ ap₂ reduced (filled_is N nums (product_at N (at x.numerators) (at y.numerators)) low high (product_past N (at x.numerators) (at y.numerators)))
    (bottom ∙ ap₂ ◌*◌ (under_is x px) (under_is y py))

pub conjugate_value : (N : ℕ) (x z : Ratio) (nums : List ℤ) → 0 < x.denominator
    → z ≡ reduced (at nums) x.denominator
    → ((j : ℕ) → j < degree N → at nums j ≡ conjugate_over N (at x.numerators) j)
    → ((j : ℕ) → degree N ≤ j → at nums j ≡ pos 0)
    → z ≡ (ring_at N).conjugate x
conjugate_value N x z nums px is low high =
    is
    ∙ ap₂ reduced (filled_is N nums (conjugate_over N (at x.numerators)) low high (conjugate_past N (at x.numerators))) (under_is x px)

pub image_value : (N k : ℕ) (x z : Ratio) (nums : List ℤ) → 0 < x.denominator
    → z ≡ reduced (at nums) x.denominator
    → ((j : ℕ) → j < degree N → at nums j ≡ image_over N k (at x.numerators) j)
    → ((j : ℕ) → degree N ≤ j → at nums j ≡ pos 0)
    → z ≡ image_of N k x
image_value N k x z nums px is low high =
    is
    ∙ ap₂ reduced (filled_is N nums (image_over N k (at x.numerators)) low high (image_past N k (at x.numerators))) (under_is x px)

pub negative_value : (N : ℕ) (x z : Ratio) (nums : List ℤ) → 0 < x.denominator → IsTrue ((ring_at N).member x)
    → z ≡ reduced (at nums) x.denominator
    → ((j : ℕ) → at nums j ≡ neg_ℤ (at x.numerators j))
    → z ≡ (ring_at N).negative x
negative_value N x z nums px member is value =
    is
    ∙ ap₂ reduced (filled_is N nums (λ j. neg_ℤ (coefficient N x j))
    (λ j lt. value j ∙ ap neg_ℤ (sym (coefficient_is N x j lt)))
    (λ j le. value j ∙ ap neg_ℤ (past_members N x member j le))
    (λ j le. ap neg_ℤ (coefficient_past N x j le))) (under_is x px)

-- ---- sums
pub gcd_positive : (d e : ℕ) → 0 < d → 0 < gcd d e
gcd_positive d e lt = (positive_of (gcd d e) (d / gcd d e) d lt (mul-div_cancel' _ (IsGcd-gcd d e).0)).0

pub gcd_left : (d e : ℕ) → gcd d e * (d / gcd d e) ≡ d
gcd_left d e = mul-div_cancel' _ (IsGcd-gcd d e).0

pub gcd_right : (d e : ℕ) → gcd d e * (e / gcd d e) ≡ e
gcd_right d e = mul-div_cancel' _ (IsGcd-gcd d e).1

spread : (g u v : ℕ) (a b : ℤ) → pos g *ℤ (a *ℤ pos u +ℤ b *ℤ pos v) ≡ pos (g * u) *ℤ a +ℤ pos (g * v) *ℤ b
spread g u v a b =
    mul-add (pos g) (a *ℤ pos u) (b *ℤ pos v)
    ∙ ap₂ ◌+ℤ◌ (ap (λ z. pos g *ℤ z) (mul_comm a (pos u)) ∙ sym (mul_assoc (pos g) (pos u) a)) (ap (λ z. pos g *ℤ z) (mul_comm b (pos v)) ∙ sym (mul_assoc (pos g) (pos v) b))

pub sum_value : (N : ℕ) (x y z : Ratio) (nums : List ℤ) (den : ℕ) → 0 < x.denominator → 0 < y.denominator → length nums ≡ 16 → 0 < den
    → z ≡ reduced (at nums) den
    → ((j : ℕ) → j < degree N → at nums j ≡ at x.numerators j *ℤ pos (y.denominator / gcd x.denominator y.denominator) +ℤ at y.numerators j *ℤ pos (x.denominator / gcd x.denominator y.denominator))
    → ((j : ℕ) → degree N ≤ j → at nums j ≡ pos 0)
    → den ≡ x.denominator * (y.denominator / gcd x.denominator y.denominator)
    → z ≡ (ring_at N).sum x y
sum_value N x y z nums den px py full pd is low high bottom =
    let d : ℕ = x.denominator in
    let e : ℕ = y.denominator in
    let g : ℕ = gcd d e in
    let u : ℕ = e / g in
    let v : ℕ = d / g in
    let gu : g * u ≡ under y = gcd_right d e ∙ under_is y py in
    let gv : g * v ≡ under x = gcd_left d e ∙ under_is x px in
    let below : IsBelow 16 (at nums) = record { past = λ j le. past_end nums j (omega (arith, full)) } in
    let f : Sequence = λ j. pos (under y) *ℤ coefficient N x j +ℤ pos (under x) *ℤ coefficient N y j in
    let scaled : ◌≡◌ {A = Sequence} (λ j. pos g *ℤ at nums j) f =
    pointwise (λ j. elim (cases_lt j (degree N)) [
      | inl lt ↦
          ap (λ w. pos g *ℤ w) (low j lt) ∙ spread g u v (at x.numerators j) (at y.numerators j)
          ∙ ap₂ (λ (p q : ℕ). pos p *ℤ at x.numerators j +ℤ pos q *ℤ at y.numerators j) gu gv
          ∙ ap₂ (λ a b. pos (under y) *ℤ a +ℤ pos (under x) *ℤ b) (sym (coefficient_is N x j lt)) (sym (coefficient_is N y j lt))
      | inr le ↦
          times-zero (pos g) (at nums j) (high j le)
          ∙ sym (ap₂ ◌+ℤ◌ (times-zero (pos (under y)) (coefficient N x j) (coefficient_past N x j le)) (times-zero (pos (under x)) (coefficient N y j) (coefficient_past N y j le)))
    ]) in
    let whole : g * den ≡ under x * under y =
    ap (λ w. g * w) bottom ∙ swapped g d u ∙ ap₂ ◌*◌ (under_is x px) gu in
    is ∙ sym (reduced-scale g (at nums) den (gcd_positive d e px) pd below) ∙ ap₂ reduced scaled whole
  where
    swapped : (g d u : ℕ) → g * (d * u) ≡ d * (g * u)
    swapped g d u = omega arith

pub sum_positive : (d e : ℕ) → 0 < d → 0 < e → 0 < d * (e / gcd d e)
sum_positive d e pd pe = product_pos d (e / gcd d e) pd (positive_of (gcd d e) (e / gcd d e) e pe (gcd_right d e)).1

-- ---- what fits
pub product_fits_is : (N : ℕ) (x y : Ratio) → IsTrue ((ring_at N).product_fits x y) ↔ BothFit (degree N) (product_size N (at x.numerators) (at y.numerators)) (x.denominator * y.denominator)
product_fits_is N x y = both_fit (degree N) (product_size N (at x.numerators) (at y.numerators)) (x.denominator * y.denominator)

pub by_gcd : (n g k u : ℕ) → u ≡ n / k → k ≡ g → u ≡ n / g
by_gcd n g k u is same = is ∙ ap (λ m. n / m) same

pub sum_fits_is : (N : ℕ) (x y : Ratio) (u v : ℕ) → u ≡ y.denominator / gcd x.denominator y.denominator → v ≡ x.denominator / gcd x.denominator y.denominator
    → IsTrue ((ring_at N).sum_fits x y) ↔ BothFit (degree N) (λ j. unsigned_abs (at x.numerators j) * u + unsigned_abs (at y.numerators j) * v) (x.denominator * u)
sum_fits_is N x y u v left right =
    let fits : ℕ → ℕ → Type 0 = λ a b. IsTrue ((ring_at N).sum_fits x y) ↔ BothFit (degree N) (λ j. unsigned_abs (at x.numerators j) * a + unsigned_abs (at y.numerators j) * b) (x.denominator * a) in
    subst (λ a. fits a v) (sym left) (subst (λ b. fits (y.denominator / gcd x.denominator y.denominator) b) (sym right) (both_fit (degree N) (sum_size x y) (x.denominator * (y.denominator / gcd x.denominator y.denominator))))

pub conjugate_fits_is : (N : ℕ) (x : Ratio) → IsTrue ((ring_at N).conjugate_fits x) ↔ ((j : ℕ) → j < degree N → conjugate_size N (at x.numerators) j ≤ 2 ^ 127 - 1)
conjugate_fits_is N x = all_fit (degree N) (conjugate_size N (at x.numerators))

pub image_fits_is : (N k : ℕ) (x : Ratio) → IsTrue (image_fits N k x) ↔ ((j : ℕ) → j < degree N → image_size N k (at x.numerators) j ≤ 2 ^ 127 - 1)
image_fits_is N k x = all_fit (degree N) (image_size N k (at x.numerators))

-- ---- the numbers zero and one
one_factor : (k m : ℕ) → k * m ≡ 1 → k ≡ 1
one_factor zero m e = absurd (omega arith)
one_factor (suc zero) m e = refl
one_factor (suc (suc k)) zero e = absurd (omega arith)
one_factor (suc (suc k)) (suc m) e = absurd (omega arith)

over_one : (f : Sequence) → content 1 16 f ≡ 1
over_one f = one_factor (content 1 16 f) (1 / content 1 16 f) (mul-div_cancel' _ (content-divides-first 1 16 f))

pub zero_number : IsNumber (tabulate 16 (λ _. pos 0)) 1
zero_number = record {
  small = λ j. subst (λ z. unsigned_abs z ≤ 2 ^ 127 - 1) (sym (tabulate-nought 16 j)) (lit≤ tt);
  positive = lit< tt;
  bounded = lit≤ tt;
  lowest = over_one (at (tabulate 16 (λ _. pos 0)));
}

one_small : (j : ℕ) → unsigned_abs (at (pos 1 ∷ tabulate 15 (λ _. pos 0)) j) ≤ 2 ^ 127 - 1
one_small zero = lit≤ tt
one_small (suc j) = subst (λ z. unsigned_abs z ≤ 2 ^ 127 - 1) (sym (tabulate-nought 15 j)) (lit≤ tt)

pub one_number : IsNumber (pos 1 ∷ tabulate 15 (λ _. pos 0)) 1
one_number = record { small = one_small; positive = lit< tt; bounded = lit≤ tt; lowest = over_one (at (pos 1 ∷ tabulate 15 (λ _. pos 0))) }

pub ratio_same : (xs ys : List ℤ) (d e : ℕ) → xs ≡ ys → d ≡ e → ◌≡◌ {A = Ratio} (record { numerators = xs; denominator = d }) (record { numerators = ys; denominator = e })
ratio_same xs ys d e p q = λ t. record { numerators = p t; denominator = q t }

pub same_ratios : (xs ys : List ℤ) (d e : ℕ) → (xs ≡ ys) → IsTrue (nat_eq d e) ↔ ◌≡◌ {A = Ratio} (record { numerators = xs; denominator = d }) (record { numerators = ys; denominator = e })
same_ratios xs ys d e p = (λ h. ratio_same xs ys d e p ((same_number d e).0 h), λ q. (same_number d e).1 (ap (λ (v : Ratio). v.denominator) q))

-- over 1 there is nothing to cancel
quotient-one : (z : ℤ) → quotient 1 z ≡ z
quotient-one z =
    let once : pos 1 *ℤ quotient 1 z ≡ quotient 1 z = omega (arith, ints) in
    sym once ∙ quotient-back 1 z (one_divides (unsigned_abs z))
  where
    one_divides : (m : ℕ) → 1 ∣ m
    one_divides m = subst (λ k. 1 ∣ k) (let e : 1 * m ≡ m = omega arith in e) (dvd-mul_right 1 m)

pub reduced_over_one : (xs : List ℤ) → length xs ≡ 16 → ◌≡◌ {A = Ratio} (record { numerators = xs; denominator = 1 }) (reduced (at xs) 1)
unfolding reduced
reduced_over_one xs full =
    let g : content 1 16 (at xs) ≡ 1 = over_one (at xs) in
    let lists : xs ≡ tabulate 16 (λ j. quotient (content 1 16 (at xs)) (at xs j)) =
    same_lists 16 xs _ full (λ j lt. sym (ap (λ k. quotient k (at xs j)) g ∙ quotient-one (at xs j))) in
    let bottom : 1 ≡ 1 / content 1 16 (at xs) = sym (ap (λ k. 1 / k) g) in
    λ t. record { numerators = lists t; denominator = bottom t }

pub number_over_one : (xs : List ℤ) (d : ℕ) → d ≡ 1 → ((j : ℕ) → unsigned_abs (at xs j) ≤ 2 ^ 127 - 1) → IsNumber xs d
number_over_one xs d one small = record {
  small = small;
  positive = omega (arith, one);
  bounded = omega (arith, one);
  lowest = ap (λ k. content k 16 (at xs)) one ∙ over_one (at xs);
}

pub reduced_over : (xs : List ℤ) (d : ℕ) → d ≡ 1 → length xs ≡ 16 → ◌≡◌ {A = Ratio} (record { numerators = xs; denominator = d }) (reduced (at xs) d)
reduced_over xs d one full =
    ap (λ (k : ℕ). record { numerators = xs; denominator = k }) one ∙ reduced_over_one xs full ∙ ap (reduced (at xs)) (sym one)
