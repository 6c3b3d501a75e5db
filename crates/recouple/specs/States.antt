-- States on fusion trees, and what they stand for.
use Rattle.std.specs.Prelude.{◌≡◌, ℕ, ◌<◌, true, List, length, All, Some}
use Rattle.symbol_table.specs.Symbols.{Symbols}
use Rattle.std.specs.Prelude.{Option, None, refl}
use Rattle.std.specs.Coded.{Coded, code_by, coded_list, coded_ℕ, coded×}
use Rattle.tree_shapes.specs.Codes.{coded_outline}
use Rattle.recouple.specs.Rotations.{rotation_of}
use Rattle.recouple.specs.Raises.{AreOver, raised, raised_at}
use Rattle.recouple.specs.declared.rotation.Rotation.{Rotation}
use Rattle.tree_shapes.specs.Labelled.{is_admissible}
use Rattle.tree_shapes.specs.Outlines.{Outline, size, with_labels}
use Rattle.amp_store.specs.Amplitudes.{amplitude_at, amplitude_of}
use Rattle.comb_laws.specs.Paths.{Vector}
use Rattle.comb_laws.specs.Amplitudes.{stands_for}

-- A state: the labels of its strands, its tree, and the amplitudes by the labels of the tree's nodes.
pub record State (E : Type 0) : Type 0 where
  pub strands : List ℕ
  pub shape : Outline
  pub amps : List (List ℕ × E)

-- what a state stands for, at each comb path over its strands
abbrev pub comb : {E : Type 0} → Symbols E → State E → Vector E
comb c s = stands_for c s.strands (with_labels s.shape s.strands) s.amps

-- A state of a category: a strand for each leaf, labels below the count, members of the ring, and keys with a label for
-- each gap, admissible at each node.
pub record IsStateOf {E : Type 0} (c : Symbols E) (s : State E) : Type 0 where
  pub leaves : size s.shape ≡ length s.strands
  pub labels : All (λ l. l < c.count) s.strands
  pub over : AreOver c.ring c.count (length s.strands) s.amps
  pub admissible : (key : List ℕ) (v : E) → amplitude_at s.amps key ≡ Some v → is_admissible c.fuse (with_labels s.shape s.strands key) ≡ true

-- the amplitudes after the node at gap k was raised; at the top nothing changes
abbrev pub raise_by : {E : Type 0} → Symbols E → List ℕ → Option Rotation → (List ℕ → E) → List ℕ → E
raise_by c strands None v = v
raise_by c strands (Some rotation) v = raised c strands rotation v

abbrev pub raise_of : {E : Type 0} → Symbols E → ℕ → State E → List ℕ → E
raise_of c k s = raise_by c s.strands (rotation_of s.shape k) (amplitude_of c.ring s.amps)

-- the same evaluated, at one key
abbrev pub stated_by : {E : Type 0} → Symbols E → List ℕ → Option Rotation → (List ℕ → E) → List ℕ → Option E
stated_by c strands None v key = Some (v key)
stated_by c strands (Some rotation) v key = raised_at c strands rotation v key

abbrev pub stated_raise : {E : Type 0} → Symbols E → ℕ → State E → List ℕ → Option E
stated_raise c k s = stated_by c s.strands (rotation_of s.shape k) (amplitude_of c.ring s.amps)

-- a code for states, by which a proof tells them apart
abbrev pub coded_state : {E : Type 0} → Coded E → Coded (State E)
coded_state {E} code =
    code_by (List ℕ × (Outline × List (List ℕ × E)))
    (coded× (coded_list coded_ℕ) (coded× coded_outline (coded_list (coded× (coded_list coded_ℕ) code))))
    (λ s. (s.strands, (s.shape, s.amps))) (λ p. record { strands = p.0; shape = p.1.0; amps = p.1.1 }) (λ _. refl)
