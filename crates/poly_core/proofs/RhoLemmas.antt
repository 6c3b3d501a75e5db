-- What is known of each accepted root.
use Rattle.std.proofs.Common.{◌≡◌, ℕ, suc, ◌<◌, ◌≤◌, Bool, true, false, ◌&&◌, cond, eqb, leb, List, [], ◌∷◌, refl, sym, ap, ◌∙◌, subst, arith, inl, inr}
use Rattle.std.specs.Prelude.{IsTrue, unsigned_abs, nat_lt, nat_le}
use Rattle.std.proofs.lemmas.Bool.{cases_lt}
use Rattle.std.proofs.lemmas.Bool.Decides.{nat_tests}
use Rattle.poly_core.specs.Gcd.{gcd, totient}
use Rattle.poly_core.specs.Good.{Root}
use Rattle.poly_core.specs.Roots.{roots, root_of, root_at, first_root, listed_in, is_listed, IsGood-root_at}
use Rattle.poly_core.specs.Rho.{is_accepted, degree, order, rho}
use Rattle.poly_core.specs.Table.{all_below, all_below_at, both}
use Rattle.poly_core.specs.declared.limits.TheConstants.{ROOT_LIMIT, DEGREE_LIMIT}

abbrev same_bool : Bool → Bool → Bool
same_bool true b = b
same_bool false true = false
same_bool false false = true

same_bool_is : (a b : Bool) → IsTrue (same_bool a b) → a ≡ b
same_bool_is true true h = refl
same_bool_is true false h = cc
same_bool_is false true h = cc
same_bool_is false false h = refl

up_to_the_limit : IsTrue (all_below (suc ROOT_LIMIT) (λ n. same_bool (is_accepted n) (is_listed n)))
unfolding is_accepted is_listed totient gcd
up_to_the_limit = refl

abbrev all_at_most : ℕ → List Root → Bool
all_at_most k [] = true
all_at_most k (r ∷ rs) = leb r.order k && all_at_most k rs

none_above : (n k : ℕ) → k < n → (rs : List Root) → IsTrue (all_at_most k rs) → listed_in n rs ≡ false
none_above n k lt [] h = refl
none_above n k lt (r ∷ rs) h =
    let parts = both (leb r.order k) (all_at_most k rs) h in
    let low : r.order ≤ k = grind (arith, nat_tests) in
    let other : eqb r.order n ≡ false = grind (arith, nat_tests) in
    ap (λ b. cond b true (listed_in n rs)) other ∙ none_above n k lt rs parts.1

listed_above : (n : ℕ) → ROOT_LIMIT < n → is_listed n ≡ false
unfolding is_listed
listed_above n lt = none_above n ROOT_LIMIT lt roots refl

accepted_above : (n : ℕ) → ROOT_LIMIT < n → is_accepted n ≡ false
unfolding is_accepted
accepted_above n lt =
    let some : nat_lt 0 n ≡ true = grind (arith, nat_tests) in
    let large : nat_le n ROOT_LIMIT ≡ false = grind (arith, nat_tests) in
    ap (λ b. b && (nat_le n ROOT_LIMIT && nat_le (totient n) DEGREE_LIMIT)) some ∙ ap (λ b. b && nat_le (totient n) DEGREE_LIMIT) large

-- the roots of the table are those that are accepted
pub accepted_is : (n : ℕ) → is_accepted n ≡ is_listed n
accepted_is n =
    elim (cases_lt n (suc ROOT_LIMIT)) [
      | inl lt ↦ same_bool_is (is_accepted n) (is_listed n) (all_below_at (suc ROOT_LIMIT) (λ k. same_bool (is_accepted k) (is_listed k)) up_to_the_limit n lt)
      | inr le ↦ accepted_above n (omega arith) ∙ sym (listed_above n (omega arith))
    ]

order_by : (n : ℕ) (r other : Root) (rest : Bool) → (IsTrue rest → Root.order other ≡ n) → (b : Bool) → eqb (Root.order r) n ≡ b → IsTrue (cond b true rest) → Root.order (cond b r other) ≡ n
order_by n r other rest by true e h = grind (arith, nat_tests)
order_by n r other rest by false e h = by h

order_of : (n : ℕ) (other : Root) (rs : List Root) → IsTrue (listed_in n rs) → Root.order (root_of n other rs) ≡ n
order_of n other [] h = cc
order_of n other (r ∷ rs) h = order_by n r (root_of n other rs) (listed_in n rs) (order_of n other rs) (eqb (Root.order r) n) refl h

pub order_is : (n : ℕ) → IsTrue (is_accepted n) → order n ≡ n
unfolding order root_at is_listed
order_is n h = order_of n first_root roots (subst (λ b. IsTrue b) (accepted_is n) h)

pub accepted_small : (n : ℕ) → IsTrue (is_accepted n) → n ≤ ROOT_LIMIT
accepted_small n h =
    elim (cases_lt ROOT_LIMIT n) [
      | inl lt ↦ let e = accepted_above n lt in cc
      | inr le ↦ le
    ]

-- of every number, as it counts for root 1 where it is no accepted root
pub degree_small : (n : ℕ) → degree n ≤ DEGREE_LIMIT
unfolding degree
degree_small n = let g = IsGood-root_at n in g.small

pub degree_positive : (n : ℕ) → 0 < degree n
unfolding degree
degree_positive n = omega arith

pub order_positive : (n : ℕ) → 0 < order n
unfolding order
order_positive n = let g = IsGood-root_at n in g.positive

pub degree_within : (n : ℕ) → degree n ≤ order n
unfolding degree order
degree_within n = let g = IsGood-root_at n in g.within

pub totient_is : (n : ℕ) → IsTrue (is_accepted n) → totient n ≡ degree n
unfolding degree order
totient_is n h = let g = IsGood-root_at n in ap totient (sym (order_is n h)) ∙ g.counted

pub rho_tiny : (n k j : ℕ) → unsigned_abs (rho n k j) ≤ 1
unfolding rho
rho_tiny n k j = let g = IsGood-root_at n in g.tiny k j
