-- One more place of a row of numbers.
use Rattle.std.proofs.Common.{◌≡◌, ◌≢◌, ℕ, ◌+◌, ◌<◌, ◌≤◌, arith, List, get_or, length, subst, sym, inl, inr, get_or-set_other, get_or-set_same}
use Rattle.std.specs.Prelude.{ℤ, pos, set}
use Rattle.std.proofs.lemmas.Bool.{cases_eq}
use Rattle.poly_core.specs.Table.{at}

pub record Filled (out : List ℤ) (n : ℕ) (P : ℕ → ℤ → Type 0) (S : ℤ → Type 0) : Type 0 where
  pub value : (k : ℕ) → k < n → P k (at out k)
  pub rest : (k : ℕ) → n ≤ k → at out k ≡ pos 0
  pub small : (k : ℕ) → S (at out k)

-- one more place filled
pub more : (out : List ℤ) (j : ℕ) (v : ℤ) (P : ℕ → ℤ → Type 0) (S : ℤ → Type 0) → j < length out → P j v → S v → Filled out j P S → Filled (set out j v) (j + 1) P S
more out j v P S lt here small_v f = record {
  value = λ k h. elim (cases_eq k j) [
    | inl e ↦ let at_j : get_or (set out j v) k (pos 0) ≡ v = rw e (get_or-set_same _ _ _ _ lt) in subst (P k) (sym at_j) (rw e here)
    | inr ne ↦ rw get_or-set_other (f.value k (omega arith))
  ];
  rest = λ k h. let ne : k ≢ j = omega arith in rw get_or-set_other (f.rest k (omega arith));
  small = λ k. elim (cases_eq k j) [
    | inl e ↦ let at_j : get_or (set out j v) k (pos 0) ≡ v = rw e (get_or-set_same _ _ _ _ lt) in subst S (sym at_j) small_v
    | inr ne ↦ rw get_or-set_other (f.small k)
  ];
}
