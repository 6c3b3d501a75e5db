-- A verdict is right about an equation: where nothing is wrong it is true, and where it is true it isn't said to fail.
-- The second may ask that each F is of the ring.
use Rattle.std.proofs.Common.{◌≡◌, ◌≢◌, ℕ, Bool, true, false, List, Option, Some, None, refl, sym, ap, ◌∙◌, true≢false}
use Rattle.std.specs.Prelude.{if◌then◌else◌, IsTrue}
use Rattle.std.proofs.lemmas.Option.{none-some}
use Rattle.ring_laws.specs.Ring.{Ring, Held, RingLaws}
use Rattle.symbol_table.specs.Symbols.{Symbols, IsOfRing}
use Rattle.symbol_table.specs.Laws.{Equation, Same, NotZero, Free, Holds, equation_of, where_so}
use Rattle.symbol_table.specs.declared.law.Law.{Law}
use Rattle.symbol_table.specs.declared.law.Kind.{Kind}
use Rattle.symbol_table.specs.declared.law.Kind.TheVariants.{Fails}
use Rattle.law_events.specs.Sides.{judged, evaluated, verdict}
use Rattle.law_events.proofs.Values.{Evaluates, same_where_none, never_fails}

pub record IsRight {E : Type 0} (ring : Ring E) (Are : Type 0) (kind : Option Kind) (equation : Equation E) : Type 0 where
  pub true_where_none : kind ≡ None → Holds ring equation
  pub never_fails : Are → Holds ring equation → kind ≡ Some Fails → ⊥

-- so at every index of a law
abbrev pub JudgesRight : {E : Type 0} → Symbols E → Law → Type 0
JudgesRight c law = (i : List ℕ) → IsRight c.ring (IsOfRing c) (verdict c law i) (equation_of c law i)

apart : {E : Type 0} (o : Option E) → evaluated o ≡ Some Fails → ⊥
apart None e = cc
apart (Some x) e = none-some Fails e

module _ {E : Type 0} (ring : Ring E) (held : Held E) (laws : RingLaws ring held) (Are : Type 0) where
  pub same_right : (left right : Option E) (x y : E) → Evaluates left x → Evaluates right y → IsRight ring Are (judged held left right) (Same x y)
  same_right left right x y l r = record {
    true_where_none = same_where_none ring held laws left right x y l r;
    never_fails = λ _ same fails. never_fails ring held laws left right x y l r same fails;
  }

  -- what is said of some indices alone
  pub where_right : (so : Bool) (kind : Option Kind) (equation : Equation E) → IsRight ring Are kind equation → IsRight ring Are (if so then kind else None) (where_so so equation)
  where_right true kind equation right = right
  where_right false kind equation right = record { true_where_none = λ _. tt; never_fails = λ _ _ fails. none-some Fails fails }

  -- a value alone
  pub free_right : (o : Option E) → IsRight ring Are (evaluated o) Free
  free_right o = record { true_where_none = λ _. tt; never_fails = λ _ _ fails. apart o fails }

  -- a value that isn't zero
  pub not_zero_right : (x : E) → (Are → IsTrue (ring.member x)) → IsRight ring Are (if held.is_zero x then Some Fails else None) (NotZero x)
  not_zero_right x are =
      by_test (held.is_zero x) (λ is. (laws.is_zero_is x (are is)).0) (λ zero. (laws.is_zero_is x (ap ring.member zero ∙ laws.zero_is)).1 zero)
    where
      by_test : (b : Bool) → (Are → IsTrue b → x ≡ ring.zero) → (x ≡ ring.zero → IsTrue b) → IsRight ring Are (if b then Some Fails else None) (NotZero x)
      by_test true zero test = record { true_where_none = λ none. absurd (none-some Fails (sym none)); never_fails = λ is other _. other (zero is refl) }
      by_test false zero test = record { true_where_none = λ none e. true≢false (sym (test e)); never_fails = λ _ other fails. none-some Fails fails }
