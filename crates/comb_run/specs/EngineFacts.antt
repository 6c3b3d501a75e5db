-- The engine on combs is faithful to comb vectors.
use Rattle.std.proofs.Common.{◌≡◌, ℕ, Bool, true, false, not, List, map, Some, None, ap, sym, ◌∙◌, subst}
use Rattle.std.specs.Prelude.{if◌then◌else◌, IsTrue}
use Rattle.std.specs.List.{list_all}
use Rattle.std.specs.List.Sorted.{IsStrictlySortedBy}
use Rattle.std.specs.Ordering.{nat_cmp}
use Rattle.ring_laws.specs.Ring.{RingLaws}
use Rattle.ring_laws.proofs.StatedLemmas.{some_inj}
use Rattle.symbol_table.specs.Symbols.{Symbols}
use Rattle.comb_laws.specs.Operators.{braided, projected, swapped}
use Rattle.comb_laws.specs.Paths.{Path, Vector, labels}
use Rattle.comb_laws.specs.Words.{comb_acts}
use Rattle.comb_laws.specs.declared.operator.Operator.TheVariants as operator
use Rattle.path_laws.proofs.FarLemmas.{far_operators}
use Rattle.run_laws.specs.Combs.{AreCombVectors, comb_nought, comb_weight}
use Rattle.run_laws.specs.Meaning.{ArePartsOf, IsFaithful}
use Rattle.run_laws.specs.Rows.{HasRisingParts, IsWeighing}
use Rattle.run_laws.specs.Schedules.{CommuteFar}
use Rattle.run_laws.proofs.CombVectors.{are_comb_vectors, combs_commute_far}
use Rattle.outcome_rows.proofs.PartLemmas.{parts_are, parts_rise}
use Rattle.comb_run.specs.Evaluated.{State, braided_fits, comb_told, is_part, projected_fits, state_weight_at}
use Rattle.comb_run.specs.Meaning.{IsLawfulVector}
use Rattle.comb_run.specs.WeightFacts.{weight_value}

some_of : {A : Type 0} (b : Bool) (x y : A) → (if b then Some x else None) ≡ Some y → x ≡ y
some_of true x y e = some_inj x y e
some_of false x y e = absurd (cc)

-- a state stands for itself
abbrev pub Stands : {E : Type 0} → State E → List ℕ × Vector E → Type 0
Stands s v = s ≡ v

module _ {E : Type 0} (c : Symbols E) (laws : RingLaws c.ring c.held) (n : ℕ) where
  abbrev vectors : AreCombVectors c
  vectors = are_comb_vectors c laws

  -- the projection of a state
  abbrev projection : ℕ → State E → ℕ → State E
  projection k s q = (s.0, projected c s.0 k q s.1)

  abbrev all_fit : ℕ → State E → Bool
  all_fit k s = list_all (λ q. projected_fits c s.0 k q s.1) (labels c.count)

  -- it does to states what the operators do to the comb vectors that they stand for
  pub engine_faithful : IsFaithful (comb_told c n) c.count (comb_acts c) (IsLawfulVector c n) (comb_nought c) Stands
  engine_faithful = record {
    keeps = λ k o v gap good. record { proper = good.proper; first = good.first; over = vectors.keeps n k o v good.over };
    nothing = λ k o v gap good none. vectors.nothing n k o v good.over none;
    raise = λ k s s' v gap good e stands. sym (some_inj s s' e) ∙ stands;
    exchange = λ k sign s s' v gap good pair e stands.
        sym (some_of (braided_fits c s.0 sign k s.1) (swapped s.0 k, braided c s.0 sign k s.1) s' e) ∙ ap (comb_acts c k (operator.Exchange sign)) stands;
    parts = λ k s ps v gap good pair e stands.
        subst (ArePartsOf c.count (λ q. comb_acts c k (operator.Project q) v) (comb_nought c) Stands) (some_of (all_fit k s) _ ps e)
        (parts_are (projection k s) (is_part c) c.count (λ q. comb_acts c k (operator.Project q) v) (comb_nought c) Stands
        (λ q low. ap (comb_acts c k (operator.Project q)) stands)
        (λ q low some. ap not (ap (λ s. comb_nought c (comb_acts c k (operator.Project q) s)) stands ∙ some)));
  }

  -- its parts come in label order
  pub engine_rises : HasRisingParts (comb_told c n)
  engine_rises k s ps e =
      subst (λ l. IsStrictlySortedBy nat_cmp (map (λ (p : ℕ × State E). p.0) l)) (some_of (all_fit k s) _ ps e) (parts_rise (projection k s) (is_part c) c.count)

  -- operators that are far apart commute on them
  pub engine_far : CommuteFar n (comb_acts c) (IsLawfulVector c n)
  engine_far = record {
    keeps = λ k o v low high good. record { proper = good.proper; first = good.first; over = vectors.keeps n k o v good.over };
    far = λ i j first second v low apart high good. CommuteFar.far (combs_commute_far c laws (far_operators c laws good.proper) n) i j first second v low apart high good.over;
  }

  -- and the weight of a state is the comb weight
  pub engine_weighing : IsWeighing (IsLawfulVector c n) (comb_nought c) Stands (state_weight_at c) (comb_weight c) c.held.is_zero
  engine_weighing = record {
    weighs = λ s v x good stands e.
        weight_value c laws s.0 s.1 (subst (λ (t : State E). (y : Path) → IsTrue (c.ring.member (t.1 y))) (sym stands) good.over.members) x e
        ∙ (sym (good.first s.0 s.1) ∙ ap (comb_weight c) stands);
    nothing = λ v good none. vectors.weightless n v good.over none;
  }
