-- Steps of a state, as they are stated.
use Rattle.std.proofs.Common.{◌≡◌, ℕ, ◌-◌, true, false, List, [], ◌∷◌, length, Some, None, ap, sym, ◌∙◌, subst}
use Rattle.std.specs.Prelude.{All, is_some}
use Rattle.std.specs.List.{AllByRecursion}
use Rattle.std.proofs.lemmas.List.Elements.{All-from_recursion}
use Rattle.ring_laws.specs.Ring.{RingLaws}
use Rattle.ring_laws.proofs.SumLemmas as S
use Rattle.symbol_table.specs.Symbols.{Symbols}
use Rattle.tree_shapes.specs.Outlines.{raise_at}
use Rattle.word_runs.specs.Parts.{parts_of}
use Rattle.word_runs.specs.declared.engine.Part.{Part}
use Rattle.word_runs.specs.declared.engine.Step.TheVariants.{Raise, Exchange}
use Rattle.comb_laws.specs.Plans.{words}
use Rattle.amp_store.specs.Amplitudes.{AreAmplitudes, amplitude_of}
use Rattle.amp_store.proofs.AmongLemmas.{all_pass, one_fails}
use Rattle.recouple.specs.Rotations.{IsKey}
use Rattle.recouple.specs.States.{State, IsStateOf, raise_of, stated_raise}
use Rattle.braid_act.specs.Exchanges.{exchange_fits, exchanged}
use Rattle.charge_project.specs.Splits.{part_at, parts_below}
use Rattle.runner.specs.Shapes.{all_parts}
use Rattle.runner.specs.Trees.{IsTreeState, entries_of, raise_fits, raised_state, stepped_at}
use Rattle.runner.specs.Entries.{entries_are, key_there}
use Rattle.program_text.specs.declared.plan.Sign.{Sign}

module _ {E : Type 0} (c : Symbols E) (k : ℕ) (s : State E) where
  -- a raise whose items all fit makes the stated state
  pub raised_is : RingLaws c.ring c.held → (n : State E) → IsStateOf c n → AreAmplitudes c.held n.amps → n.strands ≡ s.strands → n.shape ≡ raise_at k s.shape 0
      → amplitude_of c.ring n.amps ≡ raise_of c k s → ((key : List ℕ) → is_some (stated_raise c k s key) ≡ true) → stepped_at c (Raise k) s ≡ Some n
  raised_is laws n is order strands shape numbers fits =
      S.if_yes (raise_fits c k s) (Some (raised_state c k s)) None (all_pass (λ key. is_some (stated_raise c k s key)) (words c.count (length s.strands - 1)) fits)
      ∙ (λ j. Some (record {
        strands = sym strands j;
        shape = sym shape j;
        amps = sym (entries_are c laws n is order ∙ (λ i. entries_of c (length (strands i)) (numbers i))) j;
      }))

  -- an item that doesn't fit is at one of the keys
  pub raise_stops : (key : List ℕ) → IsKey c.count (length s.strands) key → stated_raise c k s key ≡ None → stepped_at c (Raise k) s ≡ None
  raise_stops key is none =
      S.if_no (raise_fits c k s) (Some (raised_state c k s)) None
      (one_fails (λ x. is_some (stated_raise c k s x)) key (words c.count (length s.strands - 1)) (key_there c.count (length s.strands) key is) (ap is_some none))

  pub exchanged_is : (sign : Sign) (n : State E) → n ≡ exchanged c sign k s → exchange_fits c sign k s ≡ true → stepped_at c (Exchange k sign) s ≡ Some n
  exchanged_is sign n is fits = S.if_yes (exchange_fits c sign k s) (Some (exchanged c sign k s)) None fits ∙ ap (λ (x : State E). Some x) (sym is)

  pub exchange_stops : (sign : Sign) → exchange_fits c sign k s ≡ false → stepped_at c (Exchange k sign) s ≡ None
  exchange_stops sign off = S.if_no (exchange_fits c sign k s) (Some (exchanged c sign k s)) None off

-- the parts of a state of the engine are such states
pub parts_are : {E : Type 0} (c : Symbols E) (k count : ℕ) (s : State E) (n : ℕ) → length s.strands ≡ n → ((q : ℕ) → IsStateOf c (part_at k s q)) → (ps : List (Part (State E)))
    → parts_of (λ (x : State E). x) ps ≡ parts_below k s count → All (λ (p : Part (State E)). IsTreeState c n p.state) ps
parts_are {E} c k count s n long each ps is =
    All-from_recursion (λ (p : Part (State E)). IsTreeState c n p.state) ps
    (from_map ps (subst (AllByRecursion (λ (part : ℕ × State E). IsTreeState c n part.1)) (sym is) (all_parts (λ (part : ℕ × State E). IsTreeState c n part.1) k count s (λ q. record { of = each q; long = long }))))
  where
    from_map : (xs : List (Part (State E))) → AllByRecursion (λ (part : ℕ × State E). IsTreeState c n part.1) (parts_of (λ (x : State E). x) xs) → AllByRecursion (λ (p : Part (State E)). IsTreeState c n p.state) xs
    from_map [] h = tt
    from_map (x ∷ xs) h = (h.0, from_map xs h.1)
