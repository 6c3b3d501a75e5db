-- What a path says of its labels.
use Rattle.std.proofs.Common.{◌≡◌, ℕ, suc, ◌+◌, ◌<◌, Bool, true, false, List, [], ◌∷◌, ◌++◌, length, refl, ap, arith}
use Rattle.std.specs.Prelude.{◌&&◌, ◌==◌, nat_lt}
use Rattle.std.specs.Str.{bytes_eq}
use Rattle.std.specs.List.{AllByRecursion}
use Rattle.std.proofs.lemmas.List.Elements.{All-from_recursion}
use Rattle.std.proofs.lemmas.Bool.Decides.{nat_tests}
use Rattle.std.proofs.lemmas.Slice.Eq.{bytes_eq-Decides}
use Rattle.symbol_table.specs.Symbols.{Symbols}
use Rattle.comb_laws.specs.Paths.{Path, goes_on, is_path, IsAlong}

pub same_path : (a x : Path) → bytes_eq a x ≡ true → a ≡ x
same_path a x = (bytes_eq-Decides a x).0

pub nat_lt_true : (x n : ℕ) → nat_lt x n ≡ true → x < n
nat_lt_true x n h = grind (arith, nat_tests)

pub and_true : (b c : Bool) → (b && c) ≡ true → (b ≡ true) × (c ≡ true)
and_true true c h = (refl, h)
and_true false c h = absurd (cc)

along_goes : {E : Type 0} (c : Symbols E) (p : ℕ) (ss xs : List ℕ) → goes_on c p ss xs ≡ true → (length xs ≡ length ss) × AllByRecursion (λ l. l < c.count) xs
along_goes c p [] [] h = (refl, tt)
along_goes c p [] (x ∷ xs) h = absurd (cc)
along_goes c p (s ∷ ss) [] h = absurd (cc)
along_goes c p (s ∷ ss) (x ∷ xs) h =
    let parts = and_true (nat_lt x c.count) (c.fuse p s x && goes_on c x ss xs) h in
    let rest = along_goes c x ss xs (and_true (c.fuse p s x) (goes_on c x ss xs) parts.1).1 in
    (ap (λ n. suc n) rest.0, (nat_lt_true x c.count parts.0, rest.1))

-- as many labels as strands
pub goes_long : {E : Type 0} (c : Symbols E) (p : ℕ) (ss xs : List ℕ) → goes_on c p ss xs ≡ true → length xs ≡ length ss
goes_long c p ss xs h = (along_goes c p ss xs h).0

-- a path has a label below the count before the first strand and after each
pub path_along : {E : Type 0} (c : Symbols E) (ss : List ℕ) (x : Path) → 0 < c.count → is_path c ss x ≡ true → IsAlong c.count (length ss) x
path_along c ss [] some h = absurd (cc)
path_along c ss (x ∷ xs) some h =
    let parts = and_true (x == 0) (goes_on c 0 ss xs) h in
    let rest = along_goes c 0 ss xs parts.1 in
    let unit : x ≡ 0 = grind (arith, nat_tests) in
    let low : x < c.count = omega arith in
    let one : suc (length xs) ≡ length ss + 1 = omega (arith, rest.0) in
    record { long = one; labels = All-from_recursion (λ l. l < c.count) (x ∷ xs) (low, rest.1) }

pub along_append : {X : Type 0} (P : X → Type 0) (xs ys : List X) → AllByRecursion P xs → AllByRecursion P ys → AllByRecursion P (xs ++ ys)
along_append P [] ys a b = b
along_append P (x ∷ xs) ys a b = (a.0, along_append P xs ys a.1 b)
