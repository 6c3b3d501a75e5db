-- Symbols as indices of one table: which are admissible, which are set, and what one value more changes.
use Rattle.std.proofs.Common.{◌≡◌, ℕ, Bool, true, false, ◌==◌, refl, ap, arith, if◌then◌else◌, Option, Some, None}
use Rattle.std.specs.Prelude.{nat_lt}
use Rattle.std.proofs.lemmas.Bool.Decides.{nat_tests}
use Rattle.cyclo_core.specs.Ratio.{Ratio}
use Rattle.symbol_table.specs.Symbols.{Given, f_admissible}
use Rattle.symbol_table.specs.Index.{f_same, v_same}
use Rattle.symbol_table.specs.declared.index.FIndex.{FIndex}
use Rattle.symbol_table.specs.declared.index.VIndex.{VIndex}
use Rattle.category_text.specs.declared.kind.Symbol.{Symbol}
use Rattle.category_text.specs.declared.kind.Symbol.TheVariants.{OfF, OfR, OfW, OfV, OfTwist, OfLoop}
use Rattle.category_text.specs.Named.{with_symbol, symbol_fault}

-- the value that was set at a symbol
abbrev pub set_of : Given Ratio → Symbol → Option Ratio
set_of g (OfF at) = g.set_f at.a at.b at.c at.d at.e at.f
set_of g (OfR at) = g.set_r at.a at.b at.c
set_of g (OfW at) = g.set_w at.a at.b at.c
set_of g (OfV at) = g.set_v at.a at.b at.c
set_of g (OfTwist a) = g.set_twist a
set_of g (OfLoop a) = g.set_loop a

-- whether so many labels and their triples admit a symbol
abbrev pub admitted : ℕ → (ℕ → ℕ → ℕ → Bool) → Symbol → Bool
admitted n fuse (OfF at) = f_admissible fuse at.a at.b at.c at.d at.e at.f
admitted n fuse (OfR at) = fuse at.a at.b at.c
admitted n fuse (OfW at) = fuse at.a at.b at.c
admitted n fuse (OfV at) = fuse at.a at.b at.c
admitted n fuse (OfTwist a) = nat_lt a n
admitted n fuse (OfLoop a) = nat_lt a n

-- two symbols of one kind with the same labels
abbrev pub same_symbol : Symbol → Symbol → Bool
same_symbol (OfF x) (OfF y) = f_same x y
same_symbol (OfR x) (OfR y) = v_same x y
same_symbol (OfW x) (OfW y) = v_same x y
same_symbol (OfV x) (OfV y) = v_same x y
same_symbol (OfTwist x) (OfTwist y) = x == y
same_symbol (OfLoop x) (OfLoop y) = x == y
same_symbol _ _ = false

v_same_is : (x y : VIndex) → v_same x y ≡ true → x ≡ y
v_same_is x y e =
    let a : x.a ≡ y.a = grind (arith, nat_tests) in
    let b : x.b ≡ y.b = grind (arith, nat_tests) in
    let c : x.c ≡ y.c = grind (arith, nat_tests) in
    λ t. record { a = a t; b = b t; c = c t }

f_same_is : (x y : FIndex) → f_same x y ≡ true → x ≡ y
f_same_is x y e =
    let a : x.a ≡ y.a = grind (arith, nat_tests) in
    let b : x.b ≡ y.b = grind (arith, nat_tests) in
    let c : x.c ≡ y.c = grind (arith, nat_tests) in
    let d : x.d ≡ y.d = grind (arith, nat_tests) in
    let e' : x.e ≡ y.e = grind (arith, nat_tests) in
    let f : x.f ≡ y.f = grind (arith, nat_tests) in
    λ t. record { a = a t; b = b t; c = c t; d = d t; e = e' t; f = f t }

label_is : (x y : ℕ) → (x == y) ≡ true → x ≡ y
label_is x y e = grind (arith, nat_tests)

pub same_symbol_is : (s t : Symbol) → same_symbol s t ≡ true → s ≡ t
same_symbol_is (OfF x) (OfF y) e = ap OfF (f_same_is x y e)
same_symbol_is (OfR x) (OfR y) e = ap OfR (v_same_is x y e)
same_symbol_is (OfW x) (OfW y) e = ap OfW (v_same_is x y e)
same_symbol_is (OfV x) (OfV y) e = ap OfV (v_same_is x y e)
same_symbol_is (OfTwist x) (OfTwist y) e = ap OfTwist (label_is x y e)
same_symbol_is (OfLoop x) (OfLoop y) e = ap OfLoop (label_is x y e)
same_symbol_is (OfF x) (OfR y) e = absurd (cc)
same_symbol_is (OfF x) (OfW y) e = absurd (cc)
same_symbol_is (OfF x) (OfV y) e = absurd (cc)
same_symbol_is (OfF x) (OfTwist y) e = absurd (cc)
same_symbol_is (OfF x) (OfLoop y) e = absurd (cc)
same_symbol_is (OfR x) (OfF y) e = absurd (cc)
same_symbol_is (OfR x) (OfW y) e = absurd (cc)
same_symbol_is (OfR x) (OfV y) e = absurd (cc)
same_symbol_is (OfR x) (OfTwist y) e = absurd (cc)
same_symbol_is (OfR x) (OfLoop y) e = absurd (cc)
same_symbol_is (OfW x) (OfF y) e = absurd (cc)
same_symbol_is (OfW x) (OfR y) e = absurd (cc)
same_symbol_is (OfW x) (OfV y) e = absurd (cc)
same_symbol_is (OfW x) (OfTwist y) e = absurd (cc)
same_symbol_is (OfW x) (OfLoop y) e = absurd (cc)
same_symbol_is (OfV x) (OfF y) e = absurd (cc)
same_symbol_is (OfV x) (OfR y) e = absurd (cc)
same_symbol_is (OfV x) (OfW y) e = absurd (cc)
same_symbol_is (OfV x) (OfTwist y) e = absurd (cc)
same_symbol_is (OfV x) (OfLoop y) e = absurd (cc)
same_symbol_is (OfTwist x) (OfF y) e = absurd (cc)
same_symbol_is (OfTwist x) (OfR y) e = absurd (cc)
same_symbol_is (OfTwist x) (OfW y) e = absurd (cc)
same_symbol_is (OfTwist x) (OfV y) e = absurd (cc)
same_symbol_is (OfTwist x) (OfLoop y) e = absurd (cc)
same_symbol_is (OfLoop x) (OfF y) e = absurd (cc)
same_symbol_is (OfLoop x) (OfR y) e = absurd (cc)
same_symbol_is (OfLoop x) (OfW y) e = absurd (cc)
same_symbol_is (OfLoop x) (OfV y) e = absurd (cc)
same_symbol_is (OfLoop x) (OfTwist y) e = absurd (cc)

v_same_self : (x : VIndex) → v_same x x ≡ true
v_same_self x = grind (arith, nat_tests)

f_same_self : (x : FIndex) → f_same x x ≡ true
f_same_self x = grind (arith, nat_tests)

label_self : (x : ℕ) → (x == x) ≡ true
label_self x = grind (arith, nat_tests)

pub same_symbol_self : (s : Symbol) → same_symbol s s ≡ true
same_symbol_self (OfF x) = f_same_self x
same_symbol_self (OfR x) = v_same_self x
same_symbol_self (OfW x) = v_same_self x
same_symbol_self (OfV x) = v_same_self x
same_symbol_self (OfTwist x) = label_self x
same_symbol_self (OfLoop x) = label_self x

-- one value more
pub set_of_with : (g : Given Ratio) (s t : Symbol) (v : Ratio) → set_of (with_symbol g s v) t ≡ (if same_symbol s t then Some v else set_of g t)
set_of_with g (OfF x) (OfF y) v = refl
set_of_with g (OfR x) (OfR y) v = refl
set_of_with g (OfW x) (OfW y) v = refl
set_of_with g (OfV x) (OfV y) v = refl
set_of_with g (OfTwist x) (OfTwist y) v = refl
set_of_with g (OfLoop x) (OfLoop y) v = refl
set_of_with g (OfF x) (OfR y) v = refl
set_of_with g (OfF x) (OfW y) v = refl
set_of_with g (OfF x) (OfV y) v = refl
set_of_with g (OfF x) (OfTwist y) v = refl
set_of_with g (OfF x) (OfLoop y) v = refl
set_of_with g (OfR x) (OfF y) v = refl
set_of_with g (OfR x) (OfW y) v = refl
set_of_with g (OfR x) (OfV y) v = refl
set_of_with g (OfR x) (OfTwist y) v = refl
set_of_with g (OfR x) (OfLoop y) v = refl
set_of_with g (OfW x) (OfF y) v = refl
set_of_with g (OfW x) (OfR y) v = refl
set_of_with g (OfW x) (OfV y) v = refl
set_of_with g (OfW x) (OfTwist y) v = refl
set_of_with g (OfW x) (OfLoop y) v = refl
set_of_with g (OfV x) (OfF y) v = refl
set_of_with g (OfV x) (OfR y) v = refl
set_of_with g (OfV x) (OfW y) v = refl
set_of_with g (OfV x) (OfTwist y) v = refl
set_of_with g (OfV x) (OfLoop y) v = refl
set_of_with g (OfTwist x) (OfF y) v = refl
set_of_with g (OfTwist x) (OfR y) v = refl
set_of_with g (OfTwist x) (OfW y) v = refl
set_of_with g (OfTwist x) (OfV y) v = refl
set_of_with g (OfTwist x) (OfLoop y) v = refl
set_of_with g (OfLoop x) (OfF y) v = refl
set_of_with g (OfLoop x) (OfR y) v = refl
set_of_with g (OfLoop x) (OfW y) v = refl
set_of_with g (OfLoop x) (OfV y) v = refl
set_of_with g (OfLoop x) (OfTwist y) v = refl

pub fuse_with : (g : Given Ratio) (s : Symbol) (v : Ratio) → (with_symbol g s v).fuse ≡ g.fuse
fuse_with g (OfF at) v = refl
fuse_with g (OfR at) v = refl
fuse_with g (OfW at) v = refl
fuse_with g (OfV at) v = refl
fuse_with g (OfTwist a) v = refl
fuse_with g (OfLoop a) v = refl

pub count_with : (g : Given Ratio) (s : Symbol) (v : Ratio) → (with_symbol g s v).count ≡ g.count
count_with g (OfF at) v = refl
count_with g (OfR at) v = refl
count_with g (OfW at) v = refl
count_with g (OfV at) v = refl
count_with g (OfTwist a) v = refl
count_with g (OfLoop a) v = refl

pub version_with : (g : Given Ratio) (s : Symbol) (v : Ratio) → (with_symbol g s v).version ≡ g.version
version_with g (OfF at) v = refl
version_with g (OfR at) v = refl
version_with g (OfW at) v = refl
version_with g (OfV at) v = refl
version_with g (OfTwist a) v = refl
version_with g (OfLoop a) v = refl

-- an admissible symbol that isn't set can be set
pub can_set : (g : Given Ratio) (n : ℕ) (s : Symbol) → admitted n g.fuse s ≡ true → set_of g s ≡ None → symbol_fault g s ≡ None
can_set g n (OfF at) a none = rw (a, none) refl
can_set g n (OfR at) a none = rw (a, none) refl
can_set g n (OfW at) a none = rw (a, none) refl
can_set g n (OfV at) a none = rw (a, none) refl
can_set g n (OfTwist at) a none = rw none refl
can_set g n (OfLoop at) a none = rw none refl
