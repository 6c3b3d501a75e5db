-- Where the labels stand that a raise reads.
use Rattle.std.specs.Prelude.{◌≡◌, ◌≢◌, ℕ, ◌+◌, ◌-◌, ◌<◌, ◌≤◌, Bool, nat_lt, List, length, All, slice_index, slice_set}
use Rattle.std.specs.Prelude.{Option, Some, None, if◌then◌else◌}
use Rattle.std.specs.Option.{option_map}
use Rattle.tree_shapes.specs.Outlines.{Outline, left_gap, right_gap, parent_gap}
use Rattle.recouple.specs.declared.rotation.Spot.{Spot}
use Rattle.recouple.specs.declared.rotation.Spot.TheVariants.{AtStrand, AtGap}
use Rattle.recouple.specs.declared.rotation.Rotation.{Rotation}

-- the label at a spot: strands count from 0, and the label of gap g is at place g - 1 of a key
abbrev pub label_at : List ℕ → List ℕ → Spot → ℕ
label_at strands key (AtStrand i) = slice_index strands i
label_at strands key (AtGap g) = slice_index key (g - 1)

-- a gap of a key with so many labels
pub record IsPlace (n g : ℕ) : Type 0 where
  pub low : 0 < g
  pub high : g ≤ n

-- a spot in a tree of n strands
abbrev pub IsSpot : ℕ → Spot → Type 0
IsSpot n (AtStrand i) = i < n
IsSpot n (AtGap g) = (0 < g) × (g < n)

-- a spot at another gap
abbrev pub IsOff : ℕ → Spot → Type 0
IsOff k (AtStrand i) = Unit {0}
IsOff k (AtGap g) = g ≢ k

-- A spot in a tree of n strands, at neither the node nor the parent of a rotation.
pub record IsBeside (n node parent : ℕ) (spot : Spot) : Type 0 where
  pub inside : IsSpot n spot
  pub off_node : IsOff node spot
  pub off_parent : IsOff parent spot

-- A rotation in a tree of n strands.
pub record IsRotation (n : ℕ) (rotation : Rotation) : Type 0 where
  pub node : IsPlace (n - 1) rotation.node
  pub parent : IsPlace (n - 1) rotation.parent
  pub apart : rotation.node ≢ rotation.parent
  pub first : IsBeside n rotation.node rotation.parent rotation.first
  pub second : IsBeside n rotation.node rotation.parent rotation.second
  pub third : IsBeside n rotation.node rotation.parent rotation.third

-- the node is the left child of its parent
abbrev pub from_left : Rotation → Bool
from_left rotation = nat_lt rotation.node rotation.parent

-- labels below the count, one for each gap of n strands
pub record IsKey (count n : ℕ) (key : List ℕ) : Type 0 where
  pub long : n ≡ length key + 1
  pub labels : All (λ l. l < count) key

-- the old key with the label t at the node: the parent has the label that the node has in the new one
abbrev pub before : Rotation → List ℕ → ℕ → List ℕ
before rotation key t = slice_set (slice_set key (rotation.parent - 1) (slice_index key (rotation.node - 1))) (rotation.node - 1) t

-- the new key with the label u at the parent: the node has the label that the parent has in the old one
abbrev pub after : Rotation → List ℕ → ℕ → List ℕ
after rotation key u = slice_set (slice_set key (rotation.node - 1) (slice_index key (rotation.parent - 1))) (rotation.parent - 1) u

-- the top of a subtree: the gap of its node, or where it is a strand that strand
abbrev pub spot_or : Spot → Option ℕ → Spot
spot_or strand None = strand
spot_or strand (Some g) = AtGap g

-- the tops of the children of the node at gap k, between the strands k and k + 1 counted from 1
abbrev pub left_spot : Outline → ℕ → Spot
left_spot t k = spot_or (AtStrand (k - 1)) (left_gap t k)

abbrev pub right_spot : Outline → ℕ → Spot
right_spot t k = spot_or (AtStrand k) (right_gap t k)

-- the rotation of the node at gap k under its parent
abbrev pub rotation_under : Outline → ℕ → ℕ → Rotation
rotation_under t k p =
    if nat_lt k p
    then record { node = k; parent = p; first = left_spot t k; second = right_spot t k; third = right_spot t p }
    else record { node = k; parent = p; first = left_spot t p; second = left_spot t k; third = right_spot t k }

-- the rotation of the node at gap k, None at the top
abbrev pub rotation_of : Outline → ℕ → Option Rotation
rotation_of t k = option_map (rotation_under t k) (parent_gap t k)
