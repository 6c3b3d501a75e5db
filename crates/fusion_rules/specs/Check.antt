-- The conditions on the triples of a fusion category with single duals.
use Rattle.std.specs.Prelude.{◌≡◌, ℕ, zero, suc, ◌+◌, ◌<◌, Bool, true, not, ◌&&◌, ◌==◌, if◌then◌else◌, Option, Some, None, unwrap_or}
use Rattle.std.specs.Option.{option_or}
use Rattle.fusion_rules.specs.declared.label.TheConstants.{UNIT}
use Rattle.fusion_rules.specs.First.{first_below}
use Rattle.fusion_rules.specs.declared.rules.RulesFault.{RulesFault}
use Rattle.fusion_rules.specs.declared.rules.RulesFault.TheVariants.{NotCommutative, NotAssociative, NoSingleDual}

-- how many labels below n pass a test
abbrev pub count_below : ℕ → (ℕ → Bool) → ℕ
count_below zero test = 0
count_below (suc n) test = count_below n test + (if test n then 1 else 0)

-- the ways from a, b, c to d, through a label e of a times b
abbrev pub ways_left : ℕ → (ℕ → ℕ → ℕ → Bool) → ℕ → ℕ → ℕ → ℕ → ℕ
ways_left n fuse a b c d = count_below n (λ e. fuse a b e && fuse e c d)

-- the ways from a, b, c to d, through a label f of b times c
abbrev pub ways_right : ℕ → (ℕ → ℕ → ℕ → Bool) → ℕ → ℕ → ℕ → ℕ → ℕ
ways_right n fuse a b c d = count_below n (λ f. fuse b c f && fuse a f d)

abbrev pub same : Bool → Bool → Bool
same x y = if x then y else not y

abbrev pub mirror_fault : (ℕ → ℕ → ℕ → Bool) → ℕ → ℕ → ℕ → Option RulesFault
mirror_fault fuse a b c = if same (fuse a b c) (fuse b a c) then None else Some (NotCommutative a b c)

abbrev pub ways_fault : ℕ → (ℕ → ℕ → ℕ → Bool) → ℕ → ℕ → ℕ → ℕ → Option RulesFault
ways_fault n fuse a b c d = if ways_left n fuse a b c d == ways_right n fuse a b c d then None else Some (NotAssociative a b c d)

abbrev pub dual_fault : ℕ → (ℕ → ℕ → ℕ → Bool) → ℕ → Option RulesFault
dual_fault n fuse a = if count_below n (λ b. fuse a b UNIT) == 1 then None else Some (NoSingleDual a)

-- the first a, b, c with N(a,b,c) unlike N(b,a,c)
abbrev pub commutative_fault : ℕ → (ℕ → ℕ → ℕ → Bool) → Option RulesFault
commutative_fault n fuse = first_below n (λ a. first_below n (λ b. first_below n (mirror_fault fuse a b)))

-- the first a, b, c, d with unlike numbers of ways
abbrev pub associative_fault : ℕ → (ℕ → ℕ → ℕ → Bool) → Option RulesFault
associative_fault n fuse = first_below n (λ a. first_below n (λ b. first_below n (λ c. first_below n (ways_fault n fuse a b c))))

-- the first a without exactly one b with N(a,b,1)
abbrev pub single_dual_fault : ℕ → (ℕ → ℕ → ℕ → Bool) → Option RulesFault
single_dual_fault n fuse = first_below n (dual_fault n fuse)

-- the first fault of the rules, in this order
abbrev pub rules_fault : ℕ → (ℕ → ℕ → ℕ → Bool) → Option RulesFault
rules_fault n fuse = option_or (commutative_fault n fuse) (option_or (associative_fault n fuse) (single_dual_fault n fuse))

-- b is the dual of a: the one label with N(a,b,1)
pub record IsDual (n : ℕ) (fuse : ℕ → ℕ → ℕ → Bool) (a b : ℕ) : Type 0 where
  pub label : b < n
  pub fuses : fuse a b UNIT ≡ true
  pub single : (x : ℕ) → x < n → fuse a x UNIT ≡ true → x ≡ b

-- the first b with N(a,b,1), or the unit where there is none
abbrev pub dual_of : ℕ → (ℕ → ℕ → ℕ → Bool) → ℕ → ℕ
dual_of n fuse a = unwrap_or (first_below n (λ b. if fuse a b UNIT then Some b else None)) UNIT

-- The rules pass: they commute, they associate, and each label has a single dual.
pub record RulesPass (n : ℕ) (fuse : ℕ → ℕ → ℕ → Bool) : Type 0 where
  pub commutative : (a b c : ℕ) → a < n → b < n → c < n → fuse a b c ≡ fuse b a c
  pub associative : (a b c d : ℕ) → a < n → b < n → c < n → d < n → ways_left n fuse a b c d ≡ ways_right n fuse a b c d
  pub single_dual : (a : ℕ) → a < n → (b : ℕ) × IsDual n fuse a b
