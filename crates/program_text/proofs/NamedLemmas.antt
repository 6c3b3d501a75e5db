-- The named outcomes of the first measurements.
use Rattle.std.proofs.Common.{◌≡◌, ℕ, ◌+◌, ◌<◌, ◌≤◌, List, [], ◌∷◌, ◌++◌, Bool, true, false, ◌||◌, ◌==◌, refl, sym, ap, subst, ◌∙◌, arith, append_assoc, if◌then◌else◌, Option, Some, None}
use Rattle.std.specs.Prelude.{nat_lt}
use Rattle.std.specs.List.{AllByRecursion}
use Rattle.std.specs.Str.{bytes_eq}
use Rattle.std.proofs.lemmas.Bool.Decides.{nat_tests}
use Rattle.fusion_rules.specs.Names.{is_name}
use Rattle.fusion_rules.proofs.FoundLemmas.{same_text}
use Rattle.program_text.specs.Grammar.{is_given, place_of}
use Rattle.program_text.specs.Program.{ProgramOutcome}
use Rattle.program_text.specs.WellFormed.{AreOutcomes, is_named}
use Rattle.program_text.specs.Written.{name_at}

-- those of the measurements before a place
abbrev pub before_of : ℕ → List ProgramOutcome → List ProgramOutcome
before_of m [] = []
before_of m (o ∷ os) = if nat_lt o.place m then o ∷ before_of m os else before_of m os

-- that of a place, if it has a name
abbrev pub named_at : ℕ → Option (List ℕ) → List ProgramOutcome
named_at m None = []
named_at m (Some name) = record { name = name; place = m } ∷ []

abbrev pub IsBehind : ProgramOutcome → ProgramOutcome → Type 0
IsBehind o p = (o.place < p.place) × (bytes_eq o.name p.name ≡ false)

-- outcomes of which each is behind all before it
abbrev pub AreSorted : List ProgramOutcome → Type 0
AreSorted [] = Unit {0}
AreSorted (o ∷ os) = (is_name o.name ≡ true) × AllByRecursion (IsBehind o) os × AreSorted os

all_at : (P : ProgramOutcome → Type 0) (xs ys : List ProgramOutcome) (o : ProgramOutcome) → AllByRecursion P (xs ++ o ∷ ys) → P o
all_at P [] ys o all = all.0
all_at P (x ∷ xs) ys o all = all_at P xs ys o all.1

not_given : (xs ys : List ProgramOutcome) (o : ProgramOutcome) (name : List ℕ) → is_given (xs ++ o ∷ ys) name ≡ false → bytes_eq o.name name ≡ false
not_given [] ys o name e = first (bytes_eq o.name name) (is_given ys name) e
  where
    first : (a b : Bool) → (a || b) ≡ false → a ≡ false
    first true b e = absurd (cc)
    first false b e = refl
not_given (x ∷ xs) ys o name e = not_given xs ys o name (second (bytes_eq x.name name) (is_given (xs ++ o ∷ ys) name) e)
  where
    second : (a b : Bool) → (a || b) ≡ false → b ≡ false
    second true b e = absurd (cc)
    second false b e = e

behind_all : (measured : ℕ) (xs ys os : List ProgramOutcome) (o : ProgramOutcome) → AreOutcomes measured (xs ++ o ∷ ys) os → AllByRecursion (IsBehind o) os
behind_all measured xs ys [] o are = tt
behind_all measured xs ys (p ∷ os) o are = (
  (all_at (λ e. e.place < p.place) xs ys o are.2, not_given xs ys o p.name are.1),
  behind_all measured xs (ys ++ p ∷ []) os o (subst (λ (b : List ProgramOutcome). AreOutcomes measured b os) (append_assoc xs (o ∷ ys) (p ∷ [])) are.4),
)

pub sorted : (measured : ℕ) (before os : List ProgramOutcome) → AreOutcomes measured before os → AreSorted os
sorted measured before [] are = tt
sorted measured before (o ∷ os) are = (are.0, behind_all measured before [] os o are.4, sorted measured (before ++ o ∷ []) os are.4)

-- no place is below, or there
none_before : (m : ℕ) (o : ProgramOutcome) (os : List ProgramOutcome) → AllByRecursion (IsBehind o) os → m ≤ o.place + 1 → before_of m os ≡ []
none_before m o [] behind le = refl
none_before m o (p ∷ os) behind le =
    let here = behind.0.0 in
    let not : nat_lt p.place m ≡ false = grind (arith, nat_tests) in
    rw (not) (none_before m o os behind.1 le)

none_at : (m : ℕ) (o : ProgramOutcome) (os : List ProgramOutcome) → AllByRecursion (IsBehind o) os → m ≤ o.place → name_at os m ≡ None
none_at m o [] behind le = refl
none_at m o (p ∷ os) behind le =
    let here = behind.0.0 in
    let not : (p.place == m) ≡ false = grind (arith, nat_tests) in
    rw (not) (none_at m o os behind.1 le)

-- one place more
pub one_more : (m : ℕ) (os : List ProgramOutcome) → AreSorted os → before_of (m + 1) os ≡ before_of m os ++ named_at m (name_at os m)
one_more m [] are = refl
one_more m (o ∷ os) are = by_tests (nat_lt o.place m) (o.place == m) refl refl (one_more m os are.2)
  where
    by_tests : (less same : Bool) → nat_lt o.place m ≡ less → (o.place == m) ≡ same → before_of (m + 1) os ≡ before_of m os ++ named_at m (name_at os m)
        → before_of (m + 1) (o ∷ os) ≡ before_of m (o ∷ os) ++ named_at m (name_at (o ∷ os) m)
    by_tests true true e f again = absurd (grind (arith, nat_tests))
    by_tests true false e f again =
        let more : nat_lt o.place (m + 1) ≡ true = grind (arith, nat_tests) in
        rw (more, e, f) (ap (λ l. o ∷ l) again)
    by_tests false true e f again =
        let more : nat_lt o.place (m + 1) ≡ true = grind (arith, nat_tests) in
        let at : m ≡ o.place = grind (arith, nat_tests) in
        rw (more, e, f, none_before (m + 1) o os are.1 (omega arith), none_before m o os are.1 (omega arith)) (ap (λ n. record { name = o.name; place = n } ∷ []) (sym at))
    by_tests false false e f again =
        let more : nat_lt o.place (m + 1) ≡ false = grind (arith, nat_tests) in
        let low : m ≤ o.place = grind (arith, nat_tests) in
        rw (more, e, f, none_at m o os are.1 low, none_before (m + 1) o os are.1 (omega arith), none_before m o os are.1 (omega arith)) refl

-- the name at a place is a name
pub name_is : (m : ℕ) (os : List ProgramOutcome) (name : List ℕ) → AreSorted os → name_at os m ≡ Some name → is_name name ≡ true
name_is m [] name are e = absurd (cc)
name_is m (o ∷ os) name are e = by_test (o.place == m) e (λ f. name_is m os name are.2 f)
  where
    by_test : (b : Bool) → (if b then Some o.name else name_at os m) ≡ Some name → (name_at os m ≡ Some name → is_name name ≡ true) → is_name name ≡ true
    by_test true e later = let same : o.name ≡ name = cc in ap is_name (sym same) ∙ are.0
    by_test false e later = later e

-- and it isn't that of an outcome before it
behind_name : (m : ℕ) (o : ProgramOutcome) (os : List ProgramOutcome) (name : List ℕ) → AllByRecursion (IsBehind o) os → name_at os m ≡ Some name → bytes_eq o.name name ≡ false
behind_name m o [] name behind e = absurd (cc)
behind_name m o (p ∷ os) name behind e = by_test (p.place == m) e (λ f. behind_name m o os name behind.1 f)
  where
    by_test : (b : Bool) → (if b then Some p.name else name_at os m) ≡ Some name → (name_at os m ≡ Some name → bytes_eq o.name name ≡ false) → bytes_eq o.name name ≡ false
    by_test true e later = let same : p.name ≡ name = cc in ap (bytes_eq o.name) (sym same) ∙ behind.0.1
    by_test false e later = later e

pub name_new : (m : ℕ) (os : List ProgramOutcome) (name : List ℕ) → AreSorted os → name_at os m ≡ Some name → is_given (before_of m os) name ≡ false
name_new m [] name are e = refl
name_new m (o ∷ os) name are e = by_tests (nat_lt o.place m) (o.place == m) refl refl e (λ f. name_new m os name are.2 f)
  where
    by_tests : (less same : Bool) → nat_lt o.place m ≡ less → (o.place == m) ≡ same → (if same then Some o.name else name_at os m) ≡ Some name → (name_at os m ≡ Some name → is_given (before_of m os) name ≡ false)
        → is_given (if less then o ∷ before_of m os else before_of m os) name ≡ false
    by_tests true true f g e later = absurd (grind (arith, nat_tests))
    by_tests true false f g e later = rw (behind_name m o os name are.1 e) (later e)
    by_tests false true f g e later =
        let low : m ≤ o.place + 1 = grind (arith, nat_tests) in
        ap (λ l. is_given l name) (none_before m o os are.1 low)
    by_tests false false f g e later = later e

-- the place of the name at a place
pub record IsNamed (m place : ℕ) (os : List ProgramOutcome) : Type 0 where
  pub name : List ℕ
  pub at : name_at os place ≡ Some name
  pub found : place_of (before_of m os) name ≡ Some place

pub name_found : (m place : ℕ) (os : List ProgramOutcome) → AreSorted os → place < m → is_named os place ≡ true → IsNamed m place os
name_found m place [] are low e = absurd (cc)
name_found m place (o ∷ os) are low e = by_tests (o.place == place) (nat_lt o.place m) refl refl e (λ f. name_found m place os are.2 low f)
  where
    by_tests : (same less : Bool) → (o.place == place) ≡ same → nat_lt o.place m ≡ less → (same || is_named os place) ≡ true → (is_named os place ≡ true → IsNamed m place os) → IsNamed m place (o ∷ os)
    by_tests true false f g e later = absurd (grind (arith, nat_tests))
    by_tests true true f g e later =
        let at : o.place ≡ place = grind (arith, nat_tests) in
        record { name = o.name; at = rw f refl; found = rw (g, same_text o.name) (ap Some at) }
    by_tests false true f g e later =
        let h = later e in
        record { name = h.name; at = rw f h.at; found = rw (g, behind_name place o os h.name are.1 h.at) h.found }
    by_tests false false f g e later = let h = later e in record { name = h.name; at = rw f h.at; found = rw g h.found }
