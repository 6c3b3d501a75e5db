-- The parts of a state by the label at a gap.
use Rattle.std.specs.Prelude.{ℕ, ◌-◌, ◌==◌, Bool, true, false, List, [], ◌∷◌, map, slice_index}
use Rattle.std.specs.List.{filter}
use Rattle.comb_laws.specs.Paths.{labels}
use Rattle.recouple.specs.States.{State}

-- the amplitudes whose key has the label q at gap k, on the same tree
abbrev pub part_at : {E : Type 0} → ℕ → State E → ℕ → State E
part_at k s q = record { strands = s.strands; shape = s.shape; amps = filter (λ e. slice_index e.0 (k - 1) == q) s.amps }

-- whether there is an element
abbrev pub any_left : {A : Type 0} → List A → Bool
any_left [] = false
any_left (x ∷ xs) = true

-- the parts that occur, in the order of their labels
abbrev pub parts_below : {E : Type 0} → ℕ → State E → ℕ → List (ℕ × State E)
parts_below k s n = filter (λ p. any_left p.1.amps) (map (λ q. (q, part_at k s q)) (labels n))
