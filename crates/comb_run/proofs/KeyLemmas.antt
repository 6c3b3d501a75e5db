-- Keys and the paths that they tell.
use Rattle.std.proofs.Common.{◌≡◌, ℕ, ◌+◌, ◌<◌, ◌≤◌, Bool, true, false, List, [], ◌∷◌, ◌++◌, drop, length, refl, ap, sym, ◌∙◌, arith}
use Rattle.std.specs.Prelude.{◌&&◌, ◌==◌, nat_lt}
use Rattle.std.specs.Str.{bytes_eq}
use Rattle.std.proofs.lemmas.Bool.Decides.{nat_tests}
use Rattle.std.proofs.lemmas.Slice.Eq.{bytes_eq-Decides}
use Rattle.fusion_rules.specs.Fusion.{Fusion, AreRules, fuses}
use Rattle.symbol_table.specs.Symbols.{Symbols}
use Rattle.symbol_table.proofs.RuleLemmas.{fuse_labels, unit_left}
use Rattle.comb_laws.specs.Paths.{Path, goes_on, is_path}
use Rattle.comb_laws.proofs.PathFacts.{same_path, and_true}
use Rattle.comb_run.specs.Entries.{path_of}

same_label : (s : ℕ) → (s == s) ≡ true
same_label s = grind (arith, nat_tests)

label_is : (a b : ℕ) → (a == b) ≡ true → a ≡ b
label_is a b h = grind (arith, nat_tests)

-- two paths over the strands are equal where their keys are
pub same_key : (strands a b : List ℕ) → bytes_eq (path_of strands a) (path_of strands b) ≡ bytes_eq a b
same_key [] a b = refl
same_key (s ∷ strands) a b = rw (same_label s) refl

-- what a path's key has behind it
pub path_of-append : (strands a b : List ℕ) → path_of strands (a ++ b) ≡ path_of strands a ++ b
path_of-append [] a b = refl
path_of-append (s ∷ strands) a b = refl

pub length-path_of : (strands key : List ℕ) → length (path_of strands key) ≤ length key + 2
length-path_of [] key = omega arith
length-path_of (s ∷ strands) key = omega arith

-- the labels behind those that the strands tell
abbrev pub rest_of : List ℕ → Path → List ℕ
rest_of [] x = drop 1 x
rest_of (s ∷ strands) x = drop 2 x

pub rest_is : (strands key : List ℕ) → rest_of strands (path_of strands key) ≡ key
rest_is [] key = refl
rest_is (s ∷ strands) key = refl

-- a path that isn't that of its rest is that of no key
pub no_key : (strands x key : List ℕ) → bytes_eq (path_of strands (rest_of strands x)) x ≡ false → bytes_eq (path_of strands key) x ≡ false
no_key strands x key off = pick (bytes_eq (path_of strands key) x) refl
  where
    pick : (b : Bool) → bytes_eq (path_of strands key) x ≡ b → b ≡ false
    pick false e = refl
    pick true e =
        let same : path_of strands key ≡ x = same_path (path_of strands key) x e in
        let key_is : rest_of strands x ≡ key = ap (rest_of strands) (sym same) ∙ rest_is strands key in
        absurd (cc (sym off ∙ (ap (λ k. bytes_eq (path_of strands k) x) key_is ∙ e)))

pub turned : (a b : Path) → bytes_eq a b ≡ false → bytes_eq b a ≡ false
turned a b off = pick (bytes_eq b a) refl
  where
    pick : (d : Bool) → bytes_eq b a ≡ d → d ≡ false
    pick false e = refl
    pick true e = absurd (cc (sym off ∙ (bytes_eq-Decides a b).1 (sym (same_path b a e))))

-- the unit times a label is that label alone
pub unit_same : (g : Fusion) → AreRules g → (s x : ℕ) → fuses g 0 s x ≡ true → s ≡ x
unit_same g rules s x h = label_is s x (sym (unit_left g rules s x (fuse_labels g rules 0 s x h).1) ∙ h)

-- so a path over strands is the path of its key
pub path_keyed : {E : Type 0} (c : Symbols E) → ((s x : ℕ) → c.fuse 0 s x ≡ true → s ≡ x) → (strands x : List ℕ) → 0 < length strands → is_path c strands x ≡ true → path_of strands (drop 2 x) ≡ x
path_keyed c unit [] x some on = absurd (omega arith)
path_keyed c unit (s ∷ strands) [] some on = absurd (cc)
path_keyed c unit (s ∷ strands) (x ∷ []) some on = absurd (none (x == 0) on)
  where
    none : (b : Bool) → (b && false) ≡ true → ⊥
    none true h = cc
    none false h = cc
path_keyed c unit (s ∷ strands) (x ∷ y ∷ key) some on =
    let parts = and_true (x == 0) (goes_on c 0 (s ∷ strands) (y ∷ key)) on in
    let goes = and_true (nat_lt y c.count) (c.fuse 0 s y && goes_on c y strands key) parts.1 in
    let zero_is : x ≡ 0 = label_is x 0 parts.0 in
    let first : s ≡ y = unit s y (and_true (c.fuse 0 s y) (goes_on c y strands key) goes.1).0 in
    λ j. sym zero_is j ∷ first j ∷ key
