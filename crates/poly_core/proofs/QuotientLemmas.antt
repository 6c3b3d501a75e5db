-- The polynomials of the table are the cyclotomic ones: their products are x^n - 1.
use Rattle.std.proofs.Common.{◌≡◌, ℕ, zero, suc, ◌-◌, ◌<◌, Bool, true, false, ◌&&◌, List, [], ◌∷◌, refl, sym, subst, arith}
use Rattle.std.specs.Prelude.{ℤ, IsTrue, nat_lt}
use Rattle.std.proofs.lemmas.Bool.Decides.{nat_tests}
use Rattle.ring_laws.specs.Whole.{int_equal}
use Rattle.ring_laws.specs.WholeLaws.{int_equal_is}
use Rattle.poly_core.specs.Cyclotomic.{IsCyclotomic, product_of, product_up_to, power_less_one, divides}
use Rattle.poly_core.specs.Cyclotomic.IsCyclotomic.{quotient}
use Rattle.poly_core.specs.Rho.{is_accepted, polynomial}
use Rattle.poly_core.specs.Roots.{root_at, is_listed}
use Rattle.poly_core.specs.Table.{all_below, all_below_at, both}
use Rattle.poly_core.specs.declared.limits.TheConstants.{ROOT_LIMIT}
use Rattle.poly_core.proofs.RhoLemmas.{accepted_is, accepted_small}

abbrev same_list : List ℤ → List ℤ → Bool
same_list [] [] = true
same_list [] (y ∷ ys) = false
same_list (x ∷ xs) [] = false
same_list (x ∷ xs) (y ∷ ys) = int_equal x y && same_list xs ys

same_list_is : (xs ys : List ℤ) → IsTrue (same_list xs ys) → xs ≡ ys
same_list_is [] [] h = refl
same_list_is [] (y ∷ ys) h = cc
same_list_is (x ∷ xs) [] h = cc
same_list_is (x ∷ xs) (y ∷ ys) h =
    let parts = both (int_equal x y) (same_list xs ys) h in
    let head = (int_equal_is x y).0 parts.0 in
    let tail = same_list_is xs ys parts.1 in
    cc

-- where the first is true, so is the second
abbrev follows : Bool → Bool → Bool
follows true b = b
follows false b = true

-- the divisors of a root of the table are in the table
abbrev divisor_listed : ℕ → ℕ → Bool
divisor_listed n d = follows (nat_lt 0 d && divides d n) (is_listed d)

abbrev is_quotient : ℕ → Bool
is_quotient n = same_list (product_of (polynomial n) (product_up_to polynomial n (n - 1))) (power_less_one n)

abbrev passes_if : Bool → ℕ → Bool
passes_if true n = nat_lt 0 n && (all_below n (divisor_listed n) && is_quotient n)
passes_if false n = true

table_passes : IsTrue (all_below (suc ROOT_LIMIT) (λ n. passes_if (is_listed n) n))
unfolding is_listed polynomial root_at
table_passes = refl

follows_to : (a b : Bool) → IsTrue (follows a b) → IsTrue a → IsTrue b
follows_to true b h p = h
follows_to false b h p = cc

and_true : (a b : Bool) → IsTrue a → IsTrue b → IsTrue (a && b)
and_true true b p q = q
and_true false b p q = cc

listed_passes : (n : ℕ) → IsTrue (is_listed n) → IsTrue (nat_lt 0 n && (all_below n (divisor_listed n) && is_quotient n))
listed_passes n h =
    let accepted : IsTrue (is_accepted n) = subst (λ (b : Bool). IsTrue b) (sym (accepted_is n)) h in
    let small = accepted_small n accepted in
    subst (λ (b : Bool). IsTrue (passes_if b n)) h (all_below_at (suc ROOT_LIMIT) (λ k. passes_if (is_listed k) k) table_passes n (omega arith))

cyclotomic_below : (m n : ℕ) → n < m → IsTrue (is_listed n) → IsCyclotomic n (polynomial n)
cyclotomic_below zero n lt h = absurd (omega arith)
cyclotomic_below (suc m) n lt h =
    let halves = both (nat_lt 0 n) (all_below n (divisor_listed n) && is_quotient n) (listed_passes n h) in
    let parts = both (all_below n (divisor_listed n)) (is_quotient n) halves.1 in
    let positive : 0 < n = grind (arith, nat_tests) in
    quotient n (polynomial n) polynomial positive
    (λ d some below divisor.
    let tests = and_true (nat_lt 0 d) (divides d n) (grind (arith, nat_tests)) divisor in
    cyclotomic_below m d (omega arith) (follows_to (nat_lt 0 d && divides d n) (is_listed d) (all_below_at n (divisor_listed n) parts.0 d below) tests))
    (same_list_is _ _ parts.1)

pub cyclotomic_is : (n : ℕ) → IsTrue (is_accepted n) → IsCyclotomic n (polynomial n)
cyclotomic_is n h = cyclotomic_below (suc n) n (omega arith) (subst (λ (b : Bool). IsTrue b) (accepted_is n) h)
