-- A raise of a whole state.
use Rattle.std.proofs.Common.{◌≡◌, ℕ, ◌<◌, List, Some, length, ◌+◌, ◌≤◌, false, arith, ◌∙◌, subst, ap, sym, refl}
use Rattle.std.specs.Prelude.{Result, Err}
use Rattle.ring_laws.specs.Ring.{RingLaws}
use Rattle.symbol_table.specs.Symbols.{Symbols}
use Rattle.tree_shapes.specs.Outlines.{size, raise_at}
use Rattle.amp_store.specs.Amplitudes.{AreAmplitudes, amplitude_of}
use Rattle.symbol_table.specs.AllLabels.{IsProper, HasEquations}
use Rattle.recouple.specs.Rotations.{IsRotation, before, rotation_of}
use Rattle.recouple.specs.Raises.{AreOver, factor, has_factor, raised}
use Rattle.recouple.specs.States.{State, IsStateOf, comb}
use Rattle.recouple.specs.declared.rotation.Rotation.{Rotation}
use Rattle.recouple.proofs.RotationLemmas.{rotation_valid, raised_size}
use Rattle.recouple.proofs.AdmissibleLemmas.{after_rotation, comes_from}
use Rattle.recouple.proofs.CombLemmas.{comb_kept}
use Rattle.recouple.proofs.EndLemmas.{entry_has}
use Rattle.recouple.proofs.SomeLemmas.{gone}
use Rattle.tree_shapes.proofs.RotationLemmas.{raised_is}
use Rattle.amp_store.proofs.EditLemmas.{nonzero_in}
use Rattle.std.specs.Prelude.{slice_get, true, ◌≢◌, [], ◌∷◌}

abbrev the_err : (A F : Type 0) → F → Result A F
the_err A F x = Err x

pub err_inj : {A F : Type 0} (x y : F) → the_err A F x ≡ the_err A F y → x ≡ y
err_inj x y e = cc

module _ {E : Type 0} (c : Symbols E) (s : State E) (is : IsStateOf c s) (k : ℕ) (low : 0 < k) (high : k < size s.shape) (rotation : Rotation) (there : rotation_of s.shape k ≡ Some rotation) where
  pub rotation_fits : IsRotation (length s.strands) rotation
  rotation_fits = subst (λ (n : ℕ). IsRotation n rotation) is.leaves (rotation_valid s.shape k rotation low high there).0

  -- the state that a raise leaves
  abbrev pub after : List (List ℕ × E) → State E
  after new = record { strands = s.strands; shape = raise_at k s.shape 0; amps = new }

  pub of_after : RingLaws c.ring c.held → ((key : List ℕ) (t : ℕ) → has_factor c s.strands rotation key t ≡ false → factor c s.strands rotation key t ≡ c.ring.zero)
      → (new : List (List ℕ × E)) → AreAmplitudes c.held new → AreOver c.ring c.count (length s.strands) new
      → amplitude_of c.ring new ≡ raised c s.strands rotation (amplitude_of c.ring s.amps) → IsStateOf c (after new)
  of_after laws off new order over equal = record {
    leaves = raised_size s.shape k low high (rotation_valid s.shape k rotation low high there).1 ∙ is.leaves;
    labels = is.labels;
    over = over;
    admissible = λ key v e.
        let from = comes_from c laws s.strands rotation off s.amps new order equal key v e in
        let long : size s.shape ≤ length key + 1 = omega (arith, is.leaves, (over.keys key v e).long) in
        after_rotation c s.strands key from.label s.shape k rotation low high long there (is.admissible (before rotation key from.label) from.value from.there) from.has;
  }

  pub comb_after : RingLaws c.ring c.held → IsProper c → HasEquations c → (new : List (List ℕ × E)) → AreAmplitudes c.held s.amps → AreAmplitudes c.held new → AreOver c.ring c.count (length s.strands) new
      → amplitude_of c.ring new ≡ raised c s.strands rotation (amplitude_of c.ring s.amps) → comb c (after new) ≡ comb c s
  comb_after laws proper has new old_order new_order over equal =
      comb_kept c laws proper has s.strands k s.shape rotation s.amps new is.leaves old_order.ordered new_order.ordered is.over over there equal low high (rotation_valid s.shape k rotation low high there).1

  -- where there was an amplitude there is one
  pub some_after : RingLaws c.ring c.held → IsProper c → HasEquations c → (new : List (List ℕ × E)) → AreAmplitudes c.held s.amps
      → amplitude_of c.ring new ≡ raised c s.strands rotation (amplitude_of c.ring s.amps) → s.amps ≢ [] → new ≢ []
  some_after laws proper equations new order equal some none = some_by s.amps refl
    where
      some_by : (es : List (List ℕ × E)) → s.amps ≡ es → ⊥
      some_by [] e = some e
      some_by (d ∷ ds) e =
          let has = entry_has s.amps 0 d (ap (λ l. slice_get l 0) e) in
          let zero : has.0 ≡ c.ring.zero =
          gone c laws proper equations s.strands k s.shape rotation s.amps is.leaves is.over there (ap (amplitude_of c.ring) (sym none) ∙ equal) d.0 has.0 has.1 (is.admissible d.0 has.0 has.1)
          (raise_at k s.shape 0) (raised_is k s.shape 0 low (omega arith) (rotation_valid s.shape k rotation low high there).1) in
          let is_zero : c.held.is_zero has.0 ≡ true = ap c.held.is_zero zero ∙ (laws.is_zero_is c.ring.zero laws.zero_is).1 refl in
          let nonzero : c.held.is_zero has.0 ≡ false = nonzero_in c.held s.amps d.0 has.0 order.nonzero has.1 in
          let both : true ≡ false = sym is_zero ∙ nonzero in
          absurd (cc)
