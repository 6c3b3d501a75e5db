-- What is there of a category on the way.
use Rattle.std.specs.Prelude.{◌≡◌, ℕ, ◌*◌, ◌%◌, [], Bool, ◌&&◌, ◌||◌, ◌==◌, nat_lt, Option, Some, None, if◌then◌else◌}
use Rattle.cyclo_core.specs.Ratio.{Ratio}
use Rattle.fusion_rules.specs.Fusion.{fuses, unit_fuses}
use Rattle.symbol_table.specs.Draft.{DraftValue, given}
use Rattle.category_maker.specs.MadeCategory.{group_fuses, root_power}

-- two labels stand before a and b, the first slowest
abbrev pub is_before : ℕ → ℕ → ℕ → ℕ → Bool
is_before a b x y = nat_lt x a || (x == a && nat_lt y b)

-- the triples, where those of a and b and of later labels aren't added yet
abbrev pub fuses_up_to : ℕ → ℕ → ℕ → ℕ → ℕ → ℕ → Bool
fuses_up_to n a b x y z = if is_before a b x y then group_fuses n x y z else unit_fuses n x y z

-- the values of R, where those of a and b and of later labels aren't set yet
abbrev pub r_up_to : ℕ → ℕ → ℕ → ℕ → ℕ → ℕ → Option Ratio
r_up_to n a b x y z = if is_before a b x y && group_fuses n x y z then Some (root_power n ((x * y) % n)) else None

-- A draft over the rules of the group with nothing set but R, which is set for labels before a and b.
pub record IsSetUpTo (n a b : ℕ) (draft : DraftValue ℕ Ratio) : Type 0 where
  pub version : draft.version ≡ 1
  pub ring : draft.ring ≡ n
  pub count : draft.rules.count ≡ n
  pub fuse : (x y z : ℕ) → fuses draft.rules x y z ≡ group_fuses n x y z
  pub f : draft.set_f ≡ []
  pub r : (x y z : ℕ) → (given draft).set_r x y z ≡ r_up_to n a b x y z
  pub w : draft.set_w ≡ []
  pub v : draft.set_v ≡ []
  pub twist : draft.set_twist ≡ []
  pub loop_value : draft.set_loop ≡ []
