-- The label that is found as a dual fuses to the unit.
use Rattle.std.proofs.Common.{◌≡◌, ℕ, zero, suc, ◌+◌, ◌<◌, Bool, true, false, Option, Some, None, refl, sym, true≢false}
use Rattle.std.specs.Prelude.{if◌then◌else◌, unwrap_or}
use Rattle.std.specs.Option.{option_or}
use Rattle.fusion_rules.specs.First.{first_from}
use Rattle.fusion_rules.specs.Check.{RulesPass, dual_of}
use Rattle.fusion_rules.proofs.FaultLemmas.{none_below}

-- where a test is first met, or nowhere
abbrev first_met : (ℕ → Bool) → ℕ → ℕ → Option ℕ
first_met test t n = first_from (λ b. if test b then Some b else None) t n

-- the test is met at what is found
met : (test : ℕ → Bool) (t n other : ℕ) → (first_met test t n ≡ None → ⊥) → test (unwrap_or (first_met test t n) other) ≡ true
met test t zero other some = absurd (some refl)
met test t (suc n) other some = here (test t) refl some (met test (t + 1) n other)
  where
    here : (b : Bool) → test t ≡ b → (option_or (if b then Some t else None) (first_met test (t + 1) n) ≡ None → ⊥)
        → ((first_met test (t + 1) n ≡ None → ⊥) → test (unwrap_or (first_met test (t + 1) n) other) ≡ true)
        → test (unwrap_or (option_or (if b then Some t else None) (first_met test (t + 1) n)) other) ≡ true
    here true e some later = e
    here false e some later = later some

no_label : {A : Type 0} (b : Bool) (x : A) → (if b then Some x else None) ≡ None → b ≡ true → ⊥
no_label true x e is = absurd cc
no_label false x e is = true≢false (sym is)

pub dual_fuses : (n : ℕ) (fuse : ℕ → ℕ → ℕ → Bool) → RulesPass n fuse → (a : ℕ) → a < n → fuse a (dual_of n fuse a) 0 ≡ true
dual_fuses n fuse pass a below =
    met (λ b. fuse a b 0) 0 n 0 (λ none.
    let dual = pass.single_dual a below in
    no_label (fuse a dual.0 0) dual.0 (none_below (λ (b : ℕ). if fuse a b 0 then Some b else None) n none dual.0 dual.1.label) dual.1.fuses)
