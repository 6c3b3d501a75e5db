-- Derived values of H and S.
use Rattle.std.specs.Prelude.{◌≡◌, ℕ, List, true, Option, Some, if◌then◌else◌}
use Rattle.std.specs.Map.{lookup}
use Rattle.std.specs.BTreeMap.{insert_entry, is_at}
use Rattle.ring_laws.specs.Ring.{Ring}
use Rattle.symbol_table.specs.Symbols.{Given, f_admissible, h_of, s_of}
use Rattle.symbol_table.specs.Index.{f_index, v_index, f_cmp, v_cmp, f_same}
use Rattle.symbol_table.specs.declared.index.FIndex.{FIndex}
use Rattle.symbol_table.specs.declared.index.VIndex.{VIndex}

-- The values that were put, in the order of their indices. H(a,b,c,d;f,e) stands at the index of F(a,b,c,d;e,f).
pub record DerivedValue (E : Type 0) : Type 0 where
  pub put_h : List (FIndex × E)
  pub put_s : List (VIndex × E)

-- the value of H(a,b,c,d;f,e) that was put
abbrev pub h_put : {E : Type 0} → DerivedValue E → ℕ → ℕ → ℕ → ℕ → ℕ → ℕ → Option E
h_put derived a b c d f e = lookup (is_at (f_cmp (f_index a b c d e f))) derived.put_h

-- the value of S(a,b,c) that was put
abbrev pub s_put : {E : Type 0} → DerivedValue E → ℕ → ℕ → ℕ → Option E
s_put derived a b c = lookup (is_at (v_cmp (v_index a b c))) derived.put_s

-- one value in its place
abbrev pub with_h : {E : Type 0} → DerivedValue E → FIndex → E → DerivedValue E
with_h derived at value = record derived { put_h = insert_entry f_cmp derived.put_h at value }

abbrev pub with_s : {E : Type 0} → DerivedValue E → VIndex → E → DerivedValue E
with_s derived at value = record derived { put_s = insert_entry v_cmp derived.put_s at value }

-- the new values of H are the old with this one in its place
abbrev pub PutsH : {E : Type 0} → FIndex → E → (old new : ℕ → ℕ → ℕ → ℕ → ℕ → ℕ → Option E) → Type 0
PutsH at value old new =
    (a b c d f e : ℕ) → new a b c d f e ≡ (if f_same at (f_index a b c d e f) then Some value else old a b c d f e)

-- H and S of what is given stand at every admissible index.
pub record HoldsSymbols {E : Type 0} (ring : Ring E) (g : Given E) (derived : DerivedValue E) : Type 0 where
  pub h : (a b c d f e : ℕ) → f_admissible g.fuse a b c d e f ≡ true → h_put derived a b c d f e ≡ Some (h_of ring g a b c d f e)
  pub s : (a b c : ℕ) → g.fuse a b c ≡ true → s_put derived a b c ≡ Some (s_of ring g a b c)
