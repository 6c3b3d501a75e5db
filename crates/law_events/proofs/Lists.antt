-- Laws that are checked in turn: their first event, and what they say together.
use Rattle.std.proofs.Common.{◌≡◌, List, [], ◌∷◌, ◌++◌, Option, Some, None, refl, ap, ◌∙◌}
use Rattle.std.specs.Prelude.{All}
use Rattle.std.specs.Option.{option_or}
use Rattle.std.proofs.lemmas.List.Elements.{All-nil, All-cons, All-head, All-tail}
use Rattle.symbol_table.specs.Symbols.{Symbols, IsOfRing}
use Rattle.symbol_table.specs.Laws.{LawHolds}
use Rattle.symbol_table.specs.declared.law.Law.{Law}
use Rattle.law_events.specs.Sides.{first_of, first_in}
use Rattle.law_events.specs.Verdicts.{Fits, AllFit, AllHold}
use Rattle.law_events.proofs.Firsts.{or_none, law_holds, no_event}
use Rattle.law_events.proofs.Right.{JudgesRight}

or_assoc : {A : Type 0} (x y z : Option A) → option_or x (option_or y z) ≡ option_or (option_or x y) z
or_assoc None y z = refl
or_assoc (Some x) y z = refl

-- the first of two, where the one before it is none
pub behind_none : {A : Type 0} (x y z : Option A) → x ≡ None → y ≡ z → option_or x y ≡ z
behind_none x y z e f = rw e f

pub before_some : {A : Type 0} (x y : Option A) (event : A) → x ≡ Some event → option_or x y ≡ Some event
before_some x y event e = rw e refl

module _ {E : Type 0} (c : Symbols E) where
  -- the first event of laws that are put together
  pub first_append : (xs ys : List Law) → first_in c (xs ++ ys) ≡ option_or (first_in c xs) (first_in c ys)
  first_append [] ys = refl
  first_append (law ∷ xs) ys = ap (option_or (first_of c law)) (first_append xs ys) ∙ or_assoc (first_of c law) (first_in c xs) (first_in c ys)

  module _ (right : (law : Law) → JudgesRight c law) where
    -- laws that are judged right and have no event hold
    pub all_hold : (laws : List Law) → first_in c laws ≡ None → AllHold c laws
    all_hold [] none = All-nil (LawHolds c)
    all_hold (law ∷ laws) none =
        let both = or_none (first_of c law) (first_in c laws) none in
        All-cons (LawHolds c) law laws (law_holds c law (right law) both.0) (all_hold laws both.1)

    -- laws that are judged right, hold and fit have no event
    pub none_where : IsOfRing c → (laws : List Law) → AllHold c laws → AllFit c laws → first_in c laws ≡ None
    none_where are [] holds fits = refl
    none_where are (law ∷ laws) holds fits =
        behind_none (first_of c law) (first_in c laws) None
        (no_event c law (right law) are (All-head (LawHolds c) law laws holds) (All-head (Fits c) law laws fits))
        (none_where are laws (All-tail (LawHolds c) law laws holds) (All-tail (Fits c) law laws fits))
