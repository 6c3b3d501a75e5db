-- What a category text says.
use Rattle.std.specs.Prelude.{◌≡◌, ◌⊎◌, ℕ, List, Bool, true, ◌||◌, ◌==◌, Option, Some, None, if◌then◌else◌}
use Rattle.cyclo_core.specs.Ratio.{Ratio}
use Rattle.fusion_rules.specs.Fusion.{is_triple, unit_fuses}
use Rattle.symbol_table.specs.Symbols.{Given}
use Rattle.symbol_table.specs.Draft.{DraftValue, given, f_fault, set_fault, vertex_fault}
use Rattle.symbol_table.specs.Index.{f_index, v_index, f_same, v_same}
use Rattle.symbol_table.specs.declared.draft.SetFault.{SetFault}
use Rattle.category_text.specs.declared.kind.Symbol.{Symbol}
use Rattle.category_text.specs.declared.kind.Symbol.TheVariants.{OfF, OfR, OfW, OfV, OfTwist, OfLoop}
use Rattle.category_text.specs.declared.named.Named.{Named}

-- The root, the names of the labels, and which triples fuse and which values were set.
pub record NamedSymbols : Type 0 where
  pub root : ℕ
  pub names : List (List ℕ)
  pub given : Given Ratio

-- what is named over a draft
abbrev pub named_draft : List (List ℕ) → DraftValue ℕ Ratio → NamedSymbols
named_draft names draft = record { root = draft.ring; names = names; given = given draft }

abbrev pub seen : Named → NamedSymbols
seen named = named_draft named.names named.draft

-- the versions that there are
abbrev pub IsVersion : ℕ → Type 0
IsVersion version = (version ≡ 1) ⊎ (version ≡ 2)

-- marks have lines in version 2 alone
abbrev pub has_symbol : ℕ → Symbol → Bool
has_symbol version (OfF at) = true
has_symbol version (OfR at) = true
has_symbol version (OfW at) = true
has_symbol version (OfV at) = true
has_symbol version (OfTwist a) = version == 2
has_symbol version (OfLoop a) = version == 2

-- the unit triples of so many labels, and no value
abbrev pub only_units : ℕ → ℕ → Given Ratio
only_units version count = record {
  version = version;
  count = count;
  fuse = unit_fuses count;
  set_f = λ a b c d e f. None;
  set_r = λ a b c. None;
  set_w = λ a b c. None;
  set_v = λ a b c. None;
  set_twist = λ a. None;
  set_loop = λ a. None;
}

-- one triple more
abbrev pub with_fusion : Given Ratio → ℕ → ℕ → ℕ → Given Ratio
with_fusion g a b c = record g { fuse = λ x y z. is_triple a b c x y z || g.fuse x y z }

-- why a symbol's value isn't set: its index isn't admissible, or it was set before
abbrev pub symbol_fault : Given Ratio → Symbol → Option SetFault
symbol_fault g (OfF at) = f_fault g at
symbol_fault g (OfR at) = vertex_fault g g.set_r at
symbol_fault g (OfW at) = vertex_fault g g.set_w at
symbol_fault g (OfV at) = vertex_fault g g.set_v at
symbol_fault g (OfTwist a) = set_fault true (g.set_twist a)
symbol_fault g (OfLoop a) = set_fault true (g.set_loop a)

-- one value more
abbrev pub with_symbol : Given Ratio → Symbol → Ratio → Given Ratio
with_symbol g (OfF at) value = record g { set_f = λ a b c d e f. if f_same at (f_index a b c d e f) then Some value else g.set_f a b c d e f }
with_symbol g (OfR at) value = record g { set_r = λ a b c. if v_same at (v_index a b c) then Some value else g.set_r a b c }
with_symbol g (OfW at) value = record g { set_w = λ a b c. if v_same at (v_index a b c) then Some value else g.set_w a b c }
with_symbol g (OfV at) value = record g { set_v = λ a b c. if v_same at (v_index a b c) then Some value else g.set_v a b c }
with_symbol g (OfTwist a) value = record g { set_twist = λ b. if a == b then Some value else g.set_twist b }
with_symbol g (OfLoop a) value = record g { set_loop = λ b. if a == b then Some value else g.set_loop b }
