-- The exponents of a root, and their inverses.
use Rattle.std.proofs.Common.{◌≡◌, ℕ, zero, suc, ◌*◌, ◌%◌, ◌<◌, ◌≤◌, Bool, true, false, ◌&&◌, cond, eqb, refl, subst, arith, inl, inr}
use Rattle.std.specs.Prelude.{IsTrue, nat_lt, nat_le, nat_eq}
use Rattle.std.proofs.lemmas.Bool.{cases_lt}
use Rattle.std.proofs.lemmas.Bool.Decides.{nat_tests}
use Rattle.poly_core.specs.Gcd.{gcd}
use Rattle.poly_core.specs.Rho.{is_accepted}
use Rattle.poly_core.specs.Table.{all_below, all_below_at, both}
use Rattle.poly_core.specs.declared.limits.TheConstants.{ROOT_LIMIT}
use Rattle.poly_core.proofs.RhoLemmas.{accepted_small}
use Rattle.cyclo_core.specs.Image.{is_exponent}

-- what the code tests
pub exponent_is : (N k m : ℕ) → m ≡ gcd k N → 0 < k → k ≤ N → nat_eq m 1 ≡ is_exponent N k
unfolding is_exponent
exponent_is N k m e some within =
    let p : nat_lt 0 k ≡ true = grind (arith, nat_tests) in
    let q : nat_le k N ≡ true = grind (arith, nat_tests) in
    rw (p, q, e) refl

pub no_exponent : (N k : ℕ) → (0 < k → k ≤ N → ⊥) → false ≡ is_exponent N k
unfolding is_exponent
no_exponent N k h =
    elim (cases_lt 0 k) [
      | inl lt ↦
          let p : nat_lt 0 k ≡ true = grind (arith, nat_tests) in
          let q : nat_le k N ≡ false = elim (cases_lt N k) [ inl more ↦ grind (arith, nat_tests) | inr le ↦ absurd (h lt le) ] in
          rw (p, q) refl
      | inr le ↦ let p : nat_lt 0 k ≡ false = grind (arith, nat_tests) in rw p refl
    ]

pub record IsExponent (N k : ℕ) : Type 0 where
  pub within : k ≤ N
  pub coprime : gcd k N ≡ 1

pub parts_of : (N k : ℕ) → IsTrue (is_exponent N k) → IsExponent N k
unfolding is_exponent
parts_of N k h =
    let p = both (nat_lt 0 k) (nat_le k N && nat_eq (gcd k N) 1) h in
    let q = both (nat_le k N) (nat_eq (gcd k N) 1) p.1 in
    record { within = le_of_test k N q.0; coprime = same_of_test (gcd k N) 1 q.1 }
  where
    le_of_test : (a b : ℕ) → IsTrue (nat_le a b) → a ≤ b
    le_of_test a b t = grind (arith, nat_tests)

    same_of_test : (a b : ℕ) → IsTrue (nat_eq a b) → a ≡ b
    same_of_test a b t = grind (arith, nat_tests)

-- ---- inverses, found by trying
-- whether k l is 1 modulo N
abbrev is_inverse : ℕ → ℕ → ℕ → Bool
is_inverse N k l = eqb ((k * l) % N) (1 % N)

-- the greatest l of at most m with this, or 0
abbrev inverse_up_to : ℕ → ℕ → ℕ → ℕ
inverse_up_to N k zero = 0
inverse_up_to N k (suc m) = cond (is_inverse N k (suc m)) (suc m) (inverse_up_to N k m)

-- an exponent has an inverse that is one too
abbrev is_inverted : ℕ → ℕ → Bool
is_inverted N k = cond (is_exponent N k) (is_exponent N (inverse_up_to N k N) && is_inverse N k (inverse_up_to N k N)) true

all_inverted : IsTrue (all_below (suc ROOT_LIMIT) (λ N. all_below (suc N) (is_inverted N)))
unfolding is_exponent gcd
all_inverted = refl

pub inverse_of : (N k : ℕ) → IsTrue (is_accepted N) → IsTrue (is_exponent N k) → (l : ℕ) × IsTrue (is_exponent N l) × ((k * l) % N ≡ 1 % N)
inverse_of N k accepted h =
    let small = accepted_small N accepted in
    let e = parts_of N k h in
    let within = e.within in
    let l = inverse_up_to N k N in
    let row = all_below_at (suc ROOT_LIMIT) (λ m. all_below (suc m) (is_inverted m)) all_inverted N (omega arith) in
    let here = all_below_at (suc N) (is_inverted N) row k (omega arith) in
    let test : IsTrue (is_exponent N l && is_inverse N k l) = subst (λ b. IsTrue (cond b (is_exponent N l && is_inverse N k l) true)) h here in
    let tests = both (is_exponent N l) (is_inverse N k l) test in
    (l, tests.0, by_test ((k * l) % N) (1 % N) tests.1)
  where
    by_test : (a b : ℕ) → IsTrue (eqb a b) → a ≡ b
    by_test a b t = grind (arith, nat_tests)
