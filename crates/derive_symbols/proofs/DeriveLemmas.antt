-- From the two walks to the symbols of a draft.
use Rattle.std.proofs.Common.{◌≡◌, ℕ, Bool, true, ◌&&◌, [], ◌∷◌, Option, Some, None, Ok, refl}
use Rattle.std.specs.Prelude.{nat_lt}
use Rattle.std.specs.Option.{option_or}
use Rattle.std.proofs.lemmas.Bool.{and_parts, ltb-true}
use Rattle.ring_laws.specs.Ring.{Ring, Held}
use Rattle.fusion_rules.specs.Fusion.{Fusion, fuses}
use Rattle.symbol_table.specs.Symbols.{Given, f_admissible, h_of, s_of, symbols_of}
use Rattle.symbol_table.specs.Index.{AreThreeLabels}
use Rattle.symbol_table.specs.Derived.{DerivedValue, HoldsSymbols, h_put, s_put}
use Rattle.symbol_table.specs.declared.law.Law.TheVariants.{DeriveH, DeriveS}
use Rattle.symbol_table.specs.declared.law.Event.{Event}
use Rattle.law_events.specs.First.{first_over}
use Rattle.law_events.specs.Sides.{first_in}
use Rattle.derive_symbols.specs.Told.{IsFault}
use Rattle.derive_symbols.specs.Walk.{stop_at, Fills}
use Rattle.derive_symbols.specs.declared.WeightFault.{WeightFault}
use Rattle.derive_symbols.specs.declared.WeightFault.TheVariants as fault
use Rattle.derive_symbols.specs.declared.walk.Symbol.TheVariants as kind

-- labels that fuse are below the count
pub labels_of : (g : Fusion) (a b c : ℕ) → fuses g a b c ≡ true → AreThreeLabels g.count a b c
labels_of g a b c is =
    let outer = and_parts (nat_lt a g.count && (nat_lt b g.count && nat_lt c g.count)) _ is in
    let first = and_parts (nat_lt a g.count) (nat_lt b g.count && nat_lt c g.count) outer.0 in
    let second = and_parts (nat_lt b g.count) (nat_lt c g.count) first.1 in
    (ltb-true a g.count first.0, ltb-true b g.count second.0, ltb-true c g.count second.1)

first_stop : {A : Type 0} (h s : Option A) (stop : A) → h ≡ Some stop → option_or h s ≡ Some stop
first_stop h s stop e = rw e refl

second_stop : {A : Type 0} (h s : Option A) (stop : A) → h ≡ None → s ≡ Some stop → option_or h (option_or s None) ≡ Some stop
second_stop h s stop e f = rw (e, f) refl

no_stop : {A : Type 0} (h s : Option A) → h ≡ None → s ≡ None → option_or h (option_or s None) ≡ None
no_stop h s e f = rw (e, f) refl

module _ {E : Type 0} (ring : Ring E) (held : Held E) (g : Given E) where
  abbrev h_first : Option Event
  h_first = first_over g.count (stop_at ring held g kind.H) 6 []

  abbrev s_first : Option Event
  s_first = first_over g.count (stop_at ring held g kind.S) 3 []

  abbrev both_first : Option Event
  both_first = first_in (symbols_of ring held g) (DeriveH ∷ DeriveS ∷ [])

  pub h_stops : (stop : WeightFault) → IsFault stop h_first → IsFault stop both_first
  h_stops (fault.Law event) is = first_stop h_first (option_or s_first None) event is
  h_stops fault.Memory is = tt

  pub s_stops : (stop : WeightFault) → h_first ≡ None → IsFault stop s_first → IsFault stop both_first
  s_stops (fault.Law event) none is = second_stop h_first s_first event none is
  s_stops fault.Memory none is = tt

  four_vertices : (x y z u : Bool) → (x && (y && (z && u))) ≡ true → (x ≡ true) × (y ≡ true) × (z ≡ true) × (u ≡ true)
  four_vertices x y z u e = let p = and_parts x _ e in let q = and_parts y _ p.1 in let r = and_parts z u q.1 in (p.0, q.0, r.0, r.1)

  pub both_derive : {A : Type 0} (x y : A) (none h s : DerivedValue E) → ((a b c : ℕ) → g.fuse a b c ≡ true → AreThreeLabels g.count a b c)
      → Fills ring held g (Ok x) kind.H 6 [] none h → Fills ring held g (Ok y) kind.S 3 [] h s → (both_first ≡ None) × HoldsSymbols ring g s
  both_derive x y none h s labels filled_h filled_s = (no_stop h_first s_first filled_h.0 filled_s.0, record { h = at_h; s = at_s })
    where
      at_h : (a b c d f e : ℕ) → f_admissible g.fuse a b c d e f ≡ true → h_put s a b c d f e ≡ Some (h_of ring g a b c d f e)
      at_h a b c d f e is =
          let parts = four_vertices (g.fuse a b e) (g.fuse e c d) (g.fuse b c f) (g.fuse a f d) is in
          let abe = labels a b e parts.0 in
          let ecd = labels e c d parts.1 in
          let afd = labels a f d parts.3 in
          filled_s.1 kind.H (a ∷ b ∷ c ∷ d ∷ f ∷ e ∷ []) (filled_h.2 a abe.0 b abe.1 c ecd.1 d ecd.2 f afd.1 e abe.2) is

      at_s : (a b c : ℕ) → g.fuse a b c ≡ true → s_put s a b c ≡ Some (s_of ring g a b c)
      at_s a b c is =
          let abc = labels a b c is in
          filled_s.2 a abc.0 b abc.1 c abc.2 is
