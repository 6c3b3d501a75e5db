-- A raise, an exchange and a measurement leave an amplitude of a state that has one.
use Rattle.std.proofs.Common.{◌≡◌, ℕ, ◌<◌, Bool, true, false, List, [], ◌∷◌, length, map, Option, Some, None, refl, ap, sym, subst, ◌∙◌, arith}
use Rattle.std.specs.Prelude.{◌≢◌, if◌then◌else◌}
use Rattle.std.specs.List.{AllByRecursion, filter}
use Rattle.ring_laws.specs.Ring.{RingLaws}
use Rattle.ring_laws.proofs.SumLemmas as S
use Rattle.ring_laws.proofs.StatedLemmas.{some_inj}
use Rattle.symbol_table.specs.Symbols.{Symbols}
use Rattle.tree_shapes.specs.Outlines.{size}
use Rattle.program_text.specs.declared.plan.Sign.{Sign}
use Rattle.amp_store.specs.Amplitudes.{AreAmplitudes, amplitude_of}
use Rattle.recouple.specs.Raises.{raise_term, raised}
use Rattle.recouple.specs.Rotations.{IsRotation, rotation_of}
use Rattle.recouple.specs.States.{State, comb, raise_by}
use Rattle.recouple.proofs.PairLemmas.{pair_there}
use Rattle.recouple.proofs.StateLemmas as R
use Rattle.braid_act.specs.Exchanges.{exchange_fits, exchanged}
use Rattle.braid_act.proofs.StateLemmas as B
use Rattle.charge_project.specs.Splits.{any_left, part_at, parts_below}
use Rattle.charge_project.proofs.SplitLemmas.{some_parts}
use Rattle.comb_laws.specs.Paths.{labels}
use Rattle.runner.specs.Entries.{entries_are}
use Rattle.runner.specs.Meaning.{AreLawful, StandsFor}
use Rattle.runner.specs.PairFacts.{IsPairOf, exchange_means, pair_of, part_means}
use Rattle.runner.specs.RaiseFacts.{entries_known, raise_means, raised_nothing}
use Rattle.runner.specs.Shapes.{all_parts}
use Rattle.runner.specs.Trees.{IsTreeState, entries_of, raise_fits, raised_state, tree_told}
use Rattle.runner.proofs.RunLemmas.{Keeps}

-- A state of the engine that has an amplitude.
pub record HasSome {E : Type 0} (c : Symbols E) (n : ℕ) (s : State E) : Type 0 where
  pub of : IsTreeState c n s
  pub amps : AreAmplitudes c.held s.amps
  pub some : s.amps ≢ []

some_of : {A : Type 0} (b : Bool) (x y : A) → (if b then Some x else None) ≡ Some y → x ≡ y
some_of true x y e = some_inj x y e
some_of false x y e = absurd (cc)

left_some : {A : Type 0} (xs : List A) → any_left xs ≡ true → xs ≢ []
left_some [] h e = absurd (cc)
left_some (x ∷ xs) h e = absurd (cc)

-- those that are kept pass the test
passed : {A : Type 0} (test : A → Bool) (xs : List A) → AllByRecursion (λ x. test x ≡ true) (filter test xs)
passed test [] = tt
passed {A} test (x ∷ xs) = by (test x) refl (passed test xs)
  where
    by : (b : Bool) → test x ≡ b → AllByRecursion (λ y. test y ≡ true) (filter test xs) → AllByRecursion (λ y. test y ≡ true) (if b then x ∷ filter test xs else filter test xs)
    by true is rest = (is, rest)
    by false is rest = rest

module _ {E : Type 0} (c : Symbols E) (laws : RingLaws c.ring c.held) (lawful : AreLawful c) (n : ℕ) where
  own : (s : State E) → HasSome c n s → StandsFor c n s (s.strands, comb c s)
  own s has = record { of = has.of; amps = has.amps; is = refl }

  inside : (k : ℕ) (s : State E) → HasSome c n s → k < n → k < size s.shape
  inside k s has high = omega (arith, high, has.of.of.leaves, has.of.long)

  raise_some : (k : ℕ) (s : State E) → 0 < k → k < n → HasSome c n s → State.amps (raised_state c k s) ≢ []
  raise_some k s low high has = pick (rotation_of s.shape k) refl
    where
      pick : (o : Option _) → rotation_of s.shape k ≡ o → State.amps (raised_state c k s) ≢ []
      pick None none e =
          has.some (entries_are c laws s has.of.of has.amps ∙ (ap (λ o. entries_of c (length s.strands) (raise_by c s.strands o (amplitude_of c.ring s.amps))) (sym none) ∙ e))
      pick (Some rotation) there e =
          let fits : IsRotation (length s.strands) rotation = R.rotation_fits c s has.of.of k low (inside k s has high) rotation there in
          let members = λ (key : List ℕ). S.total_is laws c.count (raise_term c s.strands rotation (amplitude_of c.ring s.amps) key) in
          let equal = entries_known c (raised c s.strands rotation (amplitude_of c.ring s.amps)) laws (length s.strands) members (raised_nothing c laws lawful.proper s.strands rotation fits s.amps has.of.of.over) in
          R.some_after c s has.of.of k low (inside k s has high) rotation there laws lawful.proper lawful.equations (entries_of c (length s.strands) (raised c s.strands rotation (amplitude_of c.ring s.amps))) has.amps equal has.some
          (ap (λ o. entries_of c (length s.strands) (raise_by c s.strands o (amplitude_of c.ring s.amps))) (sym there) ∙ e)

  raise_has : (k : ℕ) (s : State E) → 0 < k → k < n → HasSome c n s → HasSome c n (raised_state c k s)
  raise_has k s low high has =
      let stands = raise_means c laws lawful.proper lawful.equations n k low high s (s.strands, comb c s) (own s has) in
      record { of = stands.of; amps = stands.amps; some = raise_some k s low high has }

  exchange_has : (k : ℕ) (sign : Sign) (s : State E) → IsPairOf n k s.shape → HasSome c n s → HasSome c n (exchanged c sign k s)
  exchange_has k sign s pair has =
      let stands = exchange_means c laws lawful n k s (s.strands, comb c s) (own s has) pair sign in
      record {
        of = stands.of;
        amps = stands.amps;
        some = B.some_after c laws lawful.proper sign s has.of.of k pair.low (inside k s has pair.high) (pair_there s.shape k pair.low (inside k s has pair.high) pair.pair) has.some;
      }

  both_all : (ps : List (ℕ × State E)) → AllByRecursion (λ part. IsTreeState c n part.1 × AreAmplitudes c.held part.1.amps) ps → AllByRecursion (λ part. any_left part.1.amps ≡ true) ps
      → AllByRecursion (λ part. HasSome c n part.1) ps
  both_all [] a b = tt
  both_all (p ∷ ps) a b = (record { of = a.0.0; amps = a.0.1; some = left_some p.1.amps b.0 }, both_all ps a.1 b.1)

  parts_have : (k : ℕ) (s : State E) → IsPairOf n k s.shape → HasSome c n s → (parts_below k s c.count ≡ [] → ⊥) × AllByRecursion (λ part. HasSome c n part.1) (parts_below k s c.count)
  parts_have k s pair has = (
    some_parts c.ring c.count (length s.strands) k s has.of.of.over pair.low (let high : k < n = pair.high in let long : length s.strands ≡ n = has.of.long in omega arith) has.some,
    both_all (parts_below k s c.count)
        (all_parts (λ (part : ℕ × State E). IsTreeState c n part.1 × AreAmplitudes c.held part.1.amps) k c.count s
        (λ q. let stands = part_means c laws lawful n k s (s.strands, comb c s) (own s has) pair q in (stands.of, stands.amps)))
        (passed (λ (p : ℕ × State E). any_left p.1.amps) (map (λ q. (q, part_at k s q)) (labels c.count))),
  )

  pair_is : (k : ℕ) (s : State E) → (tree_told c n).is_pair k s.shape ≡ true → HasSome c n s → IsPairOf n k s.shape
  pair_is k s pair has = pair_of n k s.shape (has.of.of.leaves ∙ has.of.long) pair

  -- the engine keeps an amplitude
  pub keeps_some : Keeps (tree_told c n) (HasSome c n)
  keeps_some = record {
    raise = λ k s s' gap has e. subst (HasSome c n) (some_of (raise_fits c k s) (raised_state c k s) s' e) (raise_has k s gap.low gap.high has);
    exchange = λ k sign s s' gap pair has e. subst (HasSome c n) (some_of (exchange_fits c sign k s) (exchanged c sign k s) s' e) (exchange_has k sign s (pair_is k s pair has) has);
    parts = λ k s ps gap pair has e.
        subst (λ (l : List (ℕ × State E)). (l ≡ [] → ⊥) × AllByRecursion (λ part. HasSome c n part.1) l) (some_inj (parts_below k s c.count) ps e) (parts_have k s (pair_is k s pair has) has);
  }
