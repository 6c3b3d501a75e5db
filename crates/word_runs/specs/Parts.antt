-- Parts of a state, as the stated evaluation sees them.
use Rattle.std.specs.Prelude.{ℕ, List, map}
use Rattle.word_runs.specs.declared.engine.Part.{Part}

abbrev pub parts_of : {S M : Type 0} → (S → M) → List (Part S) → List (ℕ × M)
parts_of seen ps = map (λ p. (p.label, seen p.state)) ps
