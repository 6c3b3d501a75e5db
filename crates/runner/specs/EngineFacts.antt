-- The engine on trees is faithful to comb vectors.
use Rattle.std.proofs.Common.{◌≡◌, ℕ, Bool, true, false, List, Some, None, ap, sym, ◌∙◌, subst}
use Rattle.std.specs.Prelude.{if◌then◌else◌}
use Rattle.ring_laws.specs.Ring.{RingLaws}
use Rattle.ring_laws.proofs.StatedLemmas.{some_inj}
use Rattle.symbol_table.specs.Symbols.{Symbols}
use Rattle.tree_shapes.specs.Outlines.{Outline}
use Rattle.word_runs.specs.Told.{Told}
use Rattle.comb_laws.specs.Paths.{Vector}
use Rattle.comb_laws.specs.Words.{comb_acts}
use Rattle.comb_laws.specs.declared.operator.Operator.TheVariants as operator
use Rattle.path_laws.proofs.FarLemmas.{far_operators}
use Rattle.run_laws.specs.Combs.{AreCombVectors, comb_nought, comb_weight}
use Rattle.run_laws.specs.Meaning.{ArePartsOf, IsFaithful}
use Rattle.run_laws.specs.Rows.{IsWeighing}
use Rattle.run_laws.specs.Schedules.{CommuteFar}
use Rattle.run_laws.proofs.CombVectors.{are_comb_vectors, combs_commute_far}
use Rattle.recouple.specs.States.{State}
use Rattle.braid_act.specs.Exchanges.{exchange_fits, exchanged}
use Rattle.charge_project.specs.Splits.{parts_below}
use Rattle.charge_project.specs.Weights.{stated_weight}
use Rattle.charge_project.proofs.WeightLemmas.{weight_given}
use Rattle.runner.specs.Meaning.{IsLawfulVector, StandsFor}
use Rattle.runner.specs.Trees.{raise_fits, raised_state, tree_told}
use Rattle.runner.specs.PairFacts.{IsPairOf, exchange_means, pair_of, parts_mean}
use Rattle.runner.specs.RaiseFacts.{raise_means}

some_of : {A : Type 0} (b : Bool) (x y : A) → (if b then Some x else None) ≡ Some y → x ≡ y
some_of true x y e = some_inj x y e
some_of false x y e = absurd (cc)

module _ {E : Type 0} (c : Symbols E) (laws : RingLaws c.ring c.held) (n : ℕ) where
  abbrev vectors : AreCombVectors c
  vectors = are_comb_vectors c laws

  abbrev told : Told (State E) Outline
  told = tree_told c n

  pair_is : (k : ℕ) (s : State E) (v : List ℕ × Vector E) → (tree_told c n).is_pair k s.shape ≡ true → StandsFor c n s v → IsPairOf n k s.shape
  pair_is k s v pair stands = pair_of n k s.shape (stands.of.of.leaves ∙ stands.of.long) pair

  -- it does to states what the operators do to the comb vectors that they stand for
  pub engine_faithful : IsFaithful (tree_told c n) c.count (comb_acts c) (IsLawfulVector c n) (comb_nought c) (StandsFor c n)
  engine_faithful = record {
    keeps = λ k o v gap good. record { lawful = good.lawful; over = vectors.keeps n k o v good.over };
    nothing = λ k o v gap good none. vectors.nothing n k o v good.over none;
    raise = λ k s s' v gap good e stands.
        subst (λ x. StandsFor c n x v) (some_of (raise_fits c k s) (raised_state c k s) s' e)
        (raise_means c laws good.lawful.proper good.lawful.equations n k gap.low gap.high s v stands);
    exchange = λ k sign s s' v gap good pair e stands.
        subst (λ x. StandsFor c n x (comb_acts c k (operator.Exchange sign) v)) (some_of (exchange_fits c sign k s) (exchanged c sign k s) s' e)
        (exchange_means c laws good.lawful n k s v stands (pair_is k s v pair stands) sign);
    parts = λ k s ps v gap good pair e stands.
        subst (ArePartsOf c.count (λ q. comb_acts c k (operator.Project q) v) (comb_nought c) (StandsFor c n)) (some_inj (parts_below k s c.count) ps e)
        (parts_mean c laws good.lawful n k s v stands (pair_is k s v pair stands));
  }

  -- operators that are far apart commute on them
  pub engine_far : CommuteFar n (comb_acts c) (IsLawfulVector c n)
  engine_far = record {
    keeps = λ k o v low high good. record { lawful = good.lawful; over = vectors.keeps n k o v good.over };
    far = λ i j first second v low apart high good. CommuteFar.far (combs_commute_far c laws (far_operators c laws good.lawful.proper) n) i j first second v low apart high good.over;
  }

  -- and the weight of a state is the comb weight
  pub engine_weighing : IsWeighing (IsLawfulVector c n) (comb_nought c) (StandsFor c n) (stated_weight c) (comb_weight c) c.held.is_zero
  engine_weighing = record {
    weighs = λ s v x good stands e.
        let l = good.lawful in
        weight_given c laws s stands.of.of stands.amps l.proper l.equations l.unit l.weighted x e ∙ ap (comb_weight c) (sym stands.is);
    nothing = λ v good none. vectors.weightless n v good.over none;
  }
