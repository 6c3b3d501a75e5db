-- The new keys at which a raise may leave an amplitude.
use Rattle.std.specs.Prelude.{ℕ, zero, suc, ◌-◌, List, [], ◌∷◌, map, if◌then◌else◌, slice_index}
use Rattle.std.specs.List.{flat_map, range_with_len}
use Rattle.symbol_table.specs.Symbols.{Symbols}
use Rattle.recouple.specs.Rotations.{after}
use Rattle.recouple.specs.Raises.{has_factor}
use Rattle.recouple.specs.declared.rotation.Rotation.{Rotation}
use Rattle.recouple.specs.declared.sources.Source.{Source}

module _ {E : Type 0} (c : Symbols E) (strands : List ℕ) (rotation : Rotation) where
  -- the new key to which an old one adds a term, with the label u at the parent: none where its factor isn't admissible
  abbrev pub target_at : List ℕ → ℕ → List (List ℕ)
  target_at key u = if has_factor c strands rotation (after rotation key u) (slice_index key (rotation.node - 1)) then after rotation key u ∷ [] else []

  -- with each of n labels from u on
  abbrev pub row_from : ℕ → ℕ → List ℕ → List (List ℕ)
  row_from u n key = flat_map (λ l. target_at key l) (range_with_len u n)

  abbrev pub row_of : List ℕ → List (List ℕ)
  row_of key = row_from 0 c.count key

  -- those of all of these old keys
  abbrev pub targets_of : List (List ℕ × E) → List (List ℕ)
  targets_of es = flat_map (λ e. row_of e.0) es

-- the key at a place
abbrev pub key_at : {E : Type 0} → List (List ℕ × E) → ℕ → List ℕ
key_at [] i = []
key_at (e ∷ es) zero = e.0
key_at (e ∷ es) (suc i) = key_at es i

-- the new keys of some sources among these amplitudes
abbrev pub keys_of : {E : Type 0} → Rotation → List (List ℕ × E) → List Source → List (List ℕ)
keys_of rotation es sources = map (λ s. after rotation (key_at es s.place) s.to) sources
