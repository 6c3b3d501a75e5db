-- An engine that makes nothing zero is faithful with states of vectors that aren't zero.
use Rattle.std.proofs.Common.{◌≡◌, ℕ, ◌<◌, Bool, false, List, [], ◌∷◌}
use Rattle.std.specs.List.{AllByRecursion}
use Rattle.comb_laws.specs.Words.{Acts}
use Rattle.comb_laws.specs.declared.operator.Operator.TheVariants.{Project}
use Rattle.word_runs.specs.Told.{Told}
use Rattle.run_laws.specs.Meaning.{ArePartsOf, StandsAlive, ExactIsFaithful}

module _ {M V : Type 0} (count : ℕ) (project : ℕ → V) (nought : V → Bool) (Stands : M → V → Type 0) where
  alive_parts : (ps : List (ℕ × M)) → AllByRecursion (λ part. (part.0 < count) × Stands part.1 (project part.0)) ps → AllByRecursion (λ part. nought (project part.0) ≡ false) ps
      → AllByRecursion (λ part. (part.0 < count) × StandsAlive nought Stands part.1 (project part.0)) ps
  alive_parts [] sound some = tt
  alive_parts (x ∷ ps) sound some = ((sound.0.0, (sound.0.1, some.0)), alive_parts ps sound.1 some.1)

  parts_alive : (ps : List (ℕ × M)) → ArePartsOf count project nought Stands ps → AllByRecursion (λ part. nought (project part.0) ≡ false) ps → ArePartsOf count project nought (StandsAlive nought Stands) ps
  parts_alive ps are some = record { sound = alive_parts ps are.sound some; complete = are.complete; distinct = are.distinct }

pub exact_is_faithful : {M T V : Type 0} (e : Told M T) (count : ℕ) (act : Acts V) (Good : V → Type 0) (nought : V → Bool) (Stands : M → V → Type 0) → ExactIsFaithful e count act Good nought Stands
exact_is_faithful e count act Good nought Stands faithful exact = record {
  keeps = faithful.keeps;
  nothing = faithful.nothing;
  raise = λ k s s' v gap good is h. (faithful.raise k s s' v gap good is h.0, h.1);
  exchange = λ k sign s s' v gap good pair is h. (faithful.exchange k sign s s' v gap good pair is h.0, exact.exchange k sign v gap good h.1);
  parts = λ k s ps v gap good pair is h.
      parts_alive count (λ q. act k (Project q) v) nought Stands ps (faithful.parts k s ps v gap good pair is h.0) (exact.parts k s ps v gap good pair is h.0 h.1);
}
