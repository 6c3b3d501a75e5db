-- Which labels fuse.
use Rattle.std.specs.Prelude.{◌≡◌, ℕ, ◌+◌, ◌*◌, ◌<◌, ◌≤◌, Bool, true, false, ◌&&◌, ◌||◌, ◌==◌, nat_lt, List, length, slice_index_or, slice_set, if◌then◌else◌, Option, Some, None, Result, Ok, Err}
use Rattle.fusion_rules.specs.declared.label.TheConstants.{LABEL_LIMIT, UNIT}
use Rattle.fusion_rules.specs.declared.rules.RuleRefused.{RuleRefused}
use Rattle.fusion_rules.specs.declared.rules.RuleRefused.TheVariants.{Unit as IsUnit, Repeated}

-- How many labels there are, and the triples: N(a,b,c) stands at place 144 a + 12 b + c of the table.
pub record Fusion : Type 0 where
  pub count : ℕ
  pub table : List Bool

abbrev pub place : ℕ → ℕ → ℕ → ℕ
place a b c = 144 * a + 12 * b + c

abbrev pub stands_at : List Bool → ℕ → ℕ → ℕ → Bool
stands_at table a b c = slice_index_or table (place a b c) false

-- three labels below a count
abbrev pub are_labels : ℕ → ℕ → ℕ → ℕ → Bool
are_labels n a b c = nat_lt a n && (nat_lt b n && nat_lt c n)

-- N(a,b,c): false where one of the three is no label
abbrev pub fuses : Fusion → ℕ → ℕ → ℕ → Bool
fuses g a b c = are_labels g.count a b c && stands_at g.table a b c

-- the unit times a label is that label, on both sides
abbrev pub is_unit_triple : ℕ → ℕ → ℕ → Bool
is_unit_triple a b c = (a == UNIT && b == c) || (b == UNIT && a == c)

-- the unit triples of n labels, and no others
abbrev pub unit_fuses : ℕ → ℕ → ℕ → ℕ → Bool
unit_fuses n a b c = are_labels n a b c && is_unit_triple a b c

-- One to twelve labels; with the unit on the left or the right exactly the unit triples stand; nothing stands in the
-- table but at labels.
pub record AreRules (g : Fusion) : Type 0 where
  pub some : 0 < g.count
  pub few : g.count ≤ LABEL_LIMIT
  pub whole : length g.table ≡ 1728
  pub left_unit : (b c : ℕ) → b < g.count → c < g.count → stands_at g.table UNIT b c ≡ (b == c)
  pub right_unit : (a c : ℕ) → a < g.count → c < g.count → stands_at g.table a UNIT c ≡ (a == c)
  pub outside : (a b c : ℕ) → a < LABEL_LIMIT → b < LABEL_LIMIT → c < LABEL_LIMIT → are_labels g.count a b c ≡ false → stands_at g.table a b c ≡ false

-- one triple more
abbrev pub with_triple : Fusion → ℕ → ℕ → ℕ → Fusion
with_triple g a b c = record g { table = slice_set g.table (place a b c) true }

-- a triple is given
abbrev pub is_triple : ℕ → ℕ → ℕ → ℕ → ℕ → ℕ → Bool
is_triple a b c x y z = x == a && (y == b && z == c)

-- the new rules have this triple and all old ones, and no others
pub record AddsTriple (old new : Fusion) (a b c : ℕ) : Type 0 where
  pub count : new.count ≡ old.count
  pub triples : (x y z : ℕ) → fuses new x y z ≡ (is_triple a b c x y z || fuses old x y z)

-- why a triple isn't added: first the unit, then a triple that is there
abbrev pub rule_refused : Fusion → ℕ → ℕ → ℕ → Option RuleRefused
rule_refused g a b c = if a == UNIT || b == UNIT then Some IsUnit else (if fuses g a b c then Some Repeated else None)

-- what adding a triple answers, and what the rules are then: unchanged after a refusal
abbrev pub Allowed : {A : Type 0} → Result A RuleRefused → Fusion → Fusion → ℕ → ℕ → ℕ → Type 0
Allowed (Ok _) old new a b c = (rule_refused old a b c ≡ None) × (new ≡ with_triple old a b c)
Allowed (Err cause) old new a b c = (rule_refused old a b c ≡ Some cause) × (new ≡ old)
