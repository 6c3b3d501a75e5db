-- The first fault: one label more, and no fault anywhere.
use Rattle.std.proofs.Common.{◌≡◌, ℕ, zero, suc, ◌+◌, ◌-◌, ◌<◌, Option, Some, None, refl, arith, ap, sym, ◌∙◌, zero-add, add-zero}
use Rattle.std.specs.Option.{option_or}
use Rattle.fusion_rules.specs.First.{first_from, first_below}

one_less : (t n : ℕ) → t < n → n - t ≡ suc (n - (t + 1))
one_less t n h = omega arith

pub next : {E : Type 0} (fault : ℕ → Option E) (t n : ℕ) → t < n → first_from fault t (n - t) ≡ option_or (fault t) (first_from fault (t + 1) (n - (t + 1)))
next fault t n h = rw (one_less t n h) refl

-- neither of two faults is there
pub neither : {E : Type 0} (p q : Option E) → option_or p q ≡ None → (p ≡ None) × (q ≡ None)
neither None q e = (refl, e)
neither (Some x) q e = absurd cc

pub both_none : {E : Type 0} (p q : Option E) → p ≡ None → q ≡ None → option_or p q ≡ None
both_none p q e f = rw e f

none_from : {E : Type 0} (fault : ℕ → Option E) (t n : ℕ) → first_from fault t n ≡ None → (k : ℕ) → k < n → fault (t + k) ≡ None
none_from fault t zero e k h = absurd (omega arith)
none_from fault t (suc n) e zero h = ap fault (add-zero t) ∙ (neither (fault t) (first_from fault (t + 1) n) e).0
none_from fault t (suc n) e (suc k) h =
    let further : t + suc k ≡ t + 1 + k = omega arith in
    ap fault further ∙ none_from fault (t + 1) n (neither (fault t) (first_from fault (t + 1) n) e).1 k (omega arith)

from_none : {E : Type 0} (fault : ℕ → Option E) (t n : ℕ) → ((k : ℕ) → k < n → fault (t + k) ≡ None) → first_from fault t n ≡ None
from_none fault t zero none = refl
from_none fault t (suc n) none =
    both_none (fault t) (first_from fault (t + 1) n) (ap fault (sym (add-zero t)) ∙ none 0 (omega arith))
    (from_none fault (t + 1) n (λ k h. let further : t + 1 + k ≡ t + suc k = omega arith in ap fault further ∙ none (suc k) (omega arith)))

-- where there is no first fault, there is none at any label
pub none_below : {E : Type 0} (fault : ℕ → Option E) (n : ℕ) → first_below n fault ≡ None → (t : ℕ) → t < n → fault t ≡ None
none_below fault n e t h = ap fault (sym (zero-add t)) ∙ none_from fault 0 n e t h

-- where there is no fault at any label, there is no first one
pub below_none : {E : Type 0} (fault : ℕ → Option E) (n : ℕ) → ((t : ℕ) → t < n → fault t ≡ None) → first_below n fault ≡ None
below_none fault n none = from_none fault 0 n (λ k h. ap fault (zero-add k) ∙ none k h)
