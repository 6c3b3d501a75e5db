-- The keys of a state, each with its amplitude, and what they stand for.
use Rattle.std.proofs.Common.{◌≡◌, ℕ, zero, suc, ◌-◌, true, List, [], ◌∷◌, Some, length, ap, sym, ◌∙◌, subst, arith, slice_index, inl, inr}
use Rattle.std.specs.Prelude.{slice_get}
use Rattle.std.specs.Str.{bytes_eq}
use Rattle.std.proofs.lemmas.Option.{get_or_from_slice_get, slice_get_within}
use Rattle.std.proofs.lemmas.Slice.Eq.{bytes_eq-Decides}
use Rattle.ring_laws.specs.Ring.{RingLaws}
use Rattle.ring_laws.proofs.StatedLemmas.{some_inj}
use Rattle.ring_laws.proofs.SumLemmas as S
use Rattle.symbol_table.specs.Symbols.{Symbols}
use Rattle.tree_shapes.specs.Outlines.{size}
use Rattle.tree_shapes.proofs.ContextLemmas.{size_above}
use Rattle.comb_laws.specs.Paths.{Path, is_path}
use Rattle.tree_laws.specs.Entries.{AreKeys, values}
use Rattle.tree_laws.specs.Trees.{stands_for}
use Rattle.tree_laws.proofs.EntryLemmas.{comb_is}
use Rattle.amp_store.specs.Amplitudes.{AreAmplitudes, amplitude_at}
use Rattle.recouple.specs.States.{State, IsStateOf, comb}
use Rattle.recouple.proofs.CombLemmas.{over_keys, sums_are}

-- the amplitude of the key at a place is the one at that place
amplitude_there : {E : Type 0} (count n : ℕ) (es : List (List ℕ × E)) (i : ℕ) (e : List ℕ × E) → AreKeys count n es → slice_get es i ≡ Some e → amplitude_at es e.0 ≡ Some e.1
amplitude_there count n [] i e keys is = absurd (cc)
amplitude_there {E} count n (d ∷ es) zero e keys is =
    let same : d ≡ e = some_inj d e is in
    S.if_yes (bytes_eq e.0 d.0) (Some d.1) (amplitude_at es e.0) ((bytes_eq-Decides e.0 d.0).1 (ap (λ (x : List ℕ × E). x.0) (sym same)))
    ∙ ap (λ (x : List ℕ × E). Some x.1) same
amplitude_there {E} count n (d ∷ es) (suc i) e keys is =
    let off : e.0 ≡ d.0 → ⊥ = subst (λ (x : List ℕ × E). x.0 ≡ d.0 → ⊥) (get_or_from_slice_get es i e e is) (keys.1 i e (slice_get_within es i e is)) in
    S.if_no (bytes_eq e.0 d.0) (Some d.1) (amplitude_at es e.0)
    (elim (S.true_or_false (bytes_eq e.0 d.0)) [ inl yes' ↦ absurd (off ((bytes_eq-Decides e.0 d.0).0 yes')) | inr no' ↦ no' ])
    ∙ amplitude_there count n es i e keys.2 is

module _ {E : Type 0} (c : Symbols E) (s : State E) (is : IsStateOf c s) (order : AreAmplitudes c.held s.amps) where
  pub keys_are : AreKeys c.count (size s.shape - 1) s.amps
  keys_are = over_keys c.ring c.count (length s.strands) (size s.shape - 1) s.amps order.ordered is.over (omega (arith, is.leaves, size_above s.shape))

  pub entry_is : (i : ℕ) (e : List ℕ × E) → slice_get s.amps i ≡ Some e → amplitude_at s.amps e.0 ≡ Some e.1
  entry_is i e there = amplitude_there c.count (size s.shape - 1) s.amps i e keys_are there

  -- what they stand for at a path, by place
  pub comb_stands : RingLaws c.ring c.held → (x : Path) → is_path c s.strands x ≡ true
      → comb c s x ≡ stands_for c s.shape (slice_index s.strands) (values c.ring (size s.shape - 1) s.amps) (slice_index x)
  comb_stands laws x on = rw on (sums_are c s.shape s.strands x s.amps ∙ comb_is c laws s.shape (slice_index s.strands) s.amps (slice_index x) keys_are)
