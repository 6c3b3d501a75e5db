-- Numbered answers one after another.
use Rattle.std.proofs.Common.{◌≡◌, ℕ, ◌+◌, ◌-◌, ◌<◌, List, Option, Result, Ok, Err, refl, sym, ◌∙◌, arith}
use Rattle.ring_laws.specs.Ring.{Ring}
use Rattle.ring_laws.specs.Stated.{◌>>=◌, steps}
use Rattle.ring_laws.proofs.StatedLemmas.{steps_one, steps_none}
use Rattle.kept_values.specs.Kept.{Grows, Told, value_of}
use Rattle.kept_values.specs.declared.kept.Stop.{Stop}
use Rattle.kept_values.specs.declared.kept.Stop.TheVariants.{TooLarge, Memory}

-- where the first stops, all stops
pub told_stop : {E : Type 0} (ring : Ring E) (old new : List E) (e : Stop) (stated : Option E) (f : E → Option E) → Told ring old (Err e) stated → Told ring new (Err e) (stated >>= f)
told_stop ring old new TooLarge stated f h = rw h refl
told_stop ring old new Memory stated f h = tt

-- what follows a value is what follows all
pub told_next : {E : Type 0} (ring : Ring E) (old new : List E) (id : ℕ) (result : Result ℕ Stop) (stated : Option E) (f : E → Option E)
    → Told ring old (Ok id) stated → Told ring new result (f (value_of ring old id)) → Told ring new result (stated >>= f)
told_next ring old new id result stated f h next = rw h.1 next

-- values that grow twice
pub grows_on : {E : Type 0} (one two three : List E) → Grows one two → Grows two three → Grows one three
grows_on one two three g h = record {
  longer = omega (arith, g.longer, h.longer);
  same = λ k d in'. h.same k d (omega (arith, g.longer)) ∙ g.same k d in';
}

-- what is left of a sum after one step more
pub one_step : {E : Type 0} (ring : Ring E) (values : List E) (step : ℕ → E → Option E) (t n id : ℕ) (s : E)
    → t < n → Told ring values (Ok id) (step t s) → steps step t (n - t) s ≡ steps step (t + 1) (n - (t + 1)) (value_of ring values id)
one_step ring values step t n id s h told = steps_one step t n s (value_of ring values id) h told.1

-- or where that step stops
pub no_step : {E : Type 0} (ring : Ring E) (values : List E) (step : ℕ → E → Option E) (t n : ℕ) (s : E) (e : Stop) (all : Option E)
    → t < n → steps step t (n - t) s ≡ all → Told ring values (Err e) (step t s) → Told ring values (Err e) all
no_step ring values step t n s TooLarge all h rest told = sym rest ∙ steps_none step t n s h told
no_step ring values step t n s Memory all h rest told = tt
