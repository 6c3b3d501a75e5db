-- The mirror of a category: every positive exchange is a negative one.
use Rattle.std.specs.Prelude.{◌≡◌, ℕ, ◌==◌, if◌then◌else◌}
use Rattle.fusion_rules.specs.declared.label.TheConstants.{UNIT}
use Rattle.fusion_rules.specs.Check.{dual_of}
use Rattle.symbol_table.specs.Symbols.{Symbols}
use Rattle.image_laws.specs.Category.{AreOfCategory}

-- the dual of a label
abbrev pub dual_in : {E : Type 0} → Symbols E → ℕ → ℕ
dual_in c a = dual_of c.count c.fuse a

-- R(a,a*,1) R(a*,a,1) theta_(a*), with a* the dual of a: the inverse of the twist of a
abbrev pub mirrored_twist : {E : Type 0} → Symbols E → ℕ → E
mirrored_twist c a =
    let dual = dual_in c a in
    c.ring.product (c.ring.product (c.r a dual UNIT) (c.r dual a UNIT)) (c.twist dual)

-- S for R and R for S, and in version 2 the inverse twists; all else is the same
abbrev pub mirror_of : {E : Type 0} → Symbols E → Symbols E
mirror_of c = record c {
  r = c.s;
  s = c.r;
  twist = λ a. if c.version == 2 then mirrored_twist c a else c.twist a;
}

-- The mirror of a category is one, and its mirror is the category.
pub record HasMirror {E : Type 0} (c : Symbols E) : Type 0 where
  pub category : AreOfCategory (mirror_of c)
  pub again : mirror_of (mirror_of c) ≡ c
