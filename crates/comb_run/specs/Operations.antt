-- The operators of the engine: exchanges and projections at a gap.
use Rattle.std.specs.Prelude.{◌≡◌, ℕ, ◌<◌, ◌≤◌, List, length, All}
use Rattle.symbol_table.specs.Symbols.{Symbols}
use Rattle.comb_run.specs.Evaluated.{KernelAt, braid_kernel_at, charge_kernel_at}
use Rattle.symbol_table.specs.Index.{AreSixLabels}
use Rattle.tree_shapes.specs.declared.limits.TheConstants.{STRAND_LIMIT}
use Rattle.comb_run.specs.declared.kernel.Place.{Place}
use Rattle.comb_laws.specs.declared.operator.Operator.{Operator}
use Rattle.comb_laws.specs.declared.operator.Operator.TheVariants.{Exchange, Project}

-- what an operator multiplies by, evaluated
abbrev pub kernel_at : {E : Type 0} → Symbols E → Operator → KernelAt E
kernel_at c (Exchange sign) = braid_kernel_at c sign
kernel_at c (Project q) = charge_kernel_at c q

-- an operator's charge is a label
abbrev pub charge_below : ℕ → Operator → Type 0
charge_below count (Exchange sign) = Unit {0}
charge_below count (Project q) = q < count

-- the labels around a gap and at it are below the count
abbrev pub IsPlace : ℕ → Place → Type 0
IsPlace count place = AreSixLabels count place.p place.a place.b place.y place.t place.u

-- a gap of two strands or more, as many as a tree has at most, whose labels are below the count of labels, which isn't zero
pub record IsGap (count : ℕ) (strands : List ℕ) (k : ℕ) : Type 0 where
  pub some : 0 < count
  pub low : 0 < k
  pub high : k < length strands
  pub few : length strands ≤ STRAND_LIMIT
  pub labels : All (λ s. s < count) strands

-- an operator of the labels below the count at a gap of these strands, and the strands that it leaves
pub record IsAction (count : ℕ) (operator : Operator) (strands after : List ℕ) (k : ℕ) : Type 0 where
  pub gap : IsGap count strands k
  pub charge : charge_below count operator
  pub leaves : All (λ s. s < count) after
  pub same_length : length after ≡ length strands
