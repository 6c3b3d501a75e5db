-- What is known of the symbols of a new category before they are made.
use Rattle.std.specs.Prelude.{◌≡◌, ℕ, ◌<◌, ◌≤◌, true, false, ◌==◌, nat_lt, if◌then◌else◌}
use Rattle.fusion_rules.specs.declared.label.TheConstants.{LABEL_LIMIT}
use Rattle.fusion_rules.specs.Fusion.{Fusion, fuses, unit_fuses}
use Rattle.symbol_table.specs.Index.{AreThreeLabels}
use Rattle.symbol_table.specs.Symbols.{Symbols}

module _ {E : Type 0} (w : Symbols E) where
  -- One to twelve labels; only labels fuse; the unit with a label makes that label alone, on both sides.
  pub record HasRules : Type 0 where
    pub some : 0 < w.count
    pub few : w.count ≤ LABEL_LIMIT
    pub labels : (a b e : ℕ) → w.fuse a b e ≡ true → AreThreeLabels w.count a b e
    pub left : (b e : ℕ) → b < w.count → w.fuse 0 b e ≡ (b == e)
    pub right : (a e : ℕ) → a < w.count → w.fuse a 0 e ≡ (a == e)

  -- other than in version 2 the twist and the loop value of each label are 1
  pub record HasMarks : Type 0 where
    pub twist : (w.version == 2) ≡ false → (a : ℕ) → w.twist a ≡ (if nat_lt a w.count then w.ring.one else w.ring.zero)
    pub loop_value : (w.version == 2) ≡ false → (a : ℕ) → w.loop_value a ≡ (if nat_lt a w.count then w.ring.one else w.ring.zero)

  -- rules that have the unit triples, and no triples but wanted ones
  pub record ArePart (g : Fusion) : Type 0 where
    pub count : g.count ≡ w.count
    pub units : (a b e : ℕ) → unit_fuses w.count a b e ≡ true → fuses g a b e ≡ true
    pub only : (a b e : ℕ) → fuses g a b e ≡ true → w.fuse a b e ≡ true

  -- rules with no fewer triples, which are part of the wanted ones
  pub record Grow (old new : Fusion) : Type 0 where
    pub part : ArePart new
    pub keeps : (a b e : ℕ) → fuses old a b e ≡ true → fuses new a b e ≡ true
