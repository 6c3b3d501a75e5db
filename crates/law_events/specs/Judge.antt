-- What is asked of a function that judges a law.
use Rattle.std.specs.Prelude.{◌≡◌, ℕ, ◌<◌, List, All, length, Option}
use denote.Ref.{Bor}
use denote.Param.Members.{Shared}
use Rattle.symbol_table.specs.Symbols.{Symbols}
use Rattle.symbol_table.specs.Laws.{form_of}
use Rattle.symbol_table.specs.declared.law.Law.{Law}
use Rattle.symbol_table.specs.declared.law.Kind.{Kind}
use Rattle.law_events.specs.Sides.{verdict}

-- At each list of as many labels as the law has places, the function may be called, and answers the law's verdict.
pub record Judges {F E : Type 0} (g : Shared F (Bor (List ℕ) × Unit {0}) (Option Kind)) (f : F) (c : Symbols E) (law : Law) : Type 0 where
  pub takes : (i : Bor (List ℕ)) → length i.now ≡ (form_of law).places → All (λ t. t < c.count) i.now → g.pre f (i, tt)
  pub gives : (i : Bor (List ℕ)) (r : Option Kind) → length i.now ≡ (form_of law).places → All (λ t. t < c.count) i.now → g.post f (i, tt) r → r ≡ verdict c law i.now
