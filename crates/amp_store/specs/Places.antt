-- Places in a list of amplitudes.
use Rattle.std.specs.Prelude.{◌≡◌, ℕ, zero, suc, List, [], ◌∷◌, map}
use Rattle.std.specs.declared.cmp.Ordering.TheVariants.{Less, Greater}
use Rattle.amp_store.specs.Amplitudes.{key_cmp}
use Rattle.amp_store.specs.declared.entry.Entry.{Entry}

-- what an entry says, whoever else has its number
abbrev pub amplitude_in : {R E : Type 0} → Entry R E → List ℕ × E
amplitude_in e = (e.key.items, e.value.value)

-- what a list of entries says
abbrev pub amplitudes_in : {R E : Type 0} → List (Entry R E) → List (List ℕ × E)
amplitudes_in entries = map amplitude_in entries

-- the key stands at place i, behind smaller ones
abbrev pub IsAt : {E : Type 0} → List (List ℕ × E) → List ℕ → ℕ → Type 0
IsAt [] key i = ⊥
IsAt (e ∷ es) key zero = key ≡ e.0
IsAt (e ∷ es) key (suc i) = (key_cmp key e.0 ≡ Greater) × IsAt es key i

-- the key would go to place i, behind smaller ones and before greater ones
abbrev pub IsGap : {E : Type 0} → List (List ℕ × E) → List ℕ → ℕ → Type 0
IsGap [] key zero = Unit {0}
IsGap [] key (suc i) = ⊥
IsGap (e ∷ es) key zero = key_cmp key e.0 ≡ Less
IsGap (e ∷ es) key (suc i) = (key_cmp key e.0 ≡ Greater) × IsGap es key i
