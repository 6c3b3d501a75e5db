-- There is no first fault exactly where the rules pass.
use Rattle.std.proofs.Common.{◌≡◌, ℕ, ◌<◌, Bool, true, false, Some, None, Result, Ok, Err, IsOk, ◌↔◌, refl, sym, ◌∙◌, true≢false}
use Rattle.std.specs.Prelude.{if◌then◌else◌}
use Rattle.std.specs.Option.{option_or}
use Rattle.std.proofs.lemmas.Bool.{eqb-true, eq-eqb}
use Rattle.fusion_rules.specs.First.{first_below, Answers}
use Rattle.fusion_rules.specs.Check.{same, mirror_fault, ways_fault, dual_fault, ways_left, ways_right, count_below, commutative_fault, associative_fault, single_dual_fault, rules_fault, IsDual, RulesPass}
use Rattle.fusion_rules.specs.declared.rules.RulesFault.{RulesFault}
use Rattle.fusion_rules.proofs.FaultLemmas.{neither, both_none, none_below, below_none}
use Rattle.fusion_rules.proofs.CountLemmas.{one_counted, counts_one}

no_fault : {E : Type 0} (b : Bool) (e : E) → (if b then None else Some e) ≡ None → b ≡ true
no_fault true e f = refl
no_fault false e f = absurd cc

passes : {E : Type 0} (b : Bool) (e : E) → b ≡ true → (if b then None else Some e) ≡ None
passes b e f = rw f refl

same_is : (x y : Bool) → same x y ≡ true → x ≡ y
same_is true true e = refl
same_is true false e = sym e
same_is false true e = e
same_is false false e = refl

same_at : (x y : Bool) → x ≡ y → same x y ≡ true
same_at true y e = sym e
same_at false y e = rw (← e) refl

module _ (n : ℕ) (fuse : ℕ → ℕ → ℕ → Bool) where
  commutes : commutative_fault n fuse ≡ None → (a b c : ℕ) → a < n → b < n → c < n → fuse a b c ≡ fuse b a c
  commutes e a b c ha hb hc =
      let at_a = none_below (λ (x : ℕ). first_below n (λ y. first_below n (mirror_fault fuse x y))) n e a ha in
      let at_b = none_below (λ (y : ℕ). first_below n (mirror_fault fuse a y)) n at_a b hb in
      same_is (fuse a b c) (fuse b a c) (no_fault _ _ (none_below (mirror_fault fuse a b) n at_b c hc))

  commutes_all : RulesPass n fuse → commutative_fault n fuse ≡ None
  commutes_all pass =
      below_none (λ (a : ℕ). first_below n (λ b. first_below n (mirror_fault fuse a b))) n (λ a ha.
      below_none (λ (b : ℕ). first_below n (mirror_fault fuse a b)) n (λ b hb.
      below_none (mirror_fault fuse a b) n (λ c hc. passes _ _ (same_at (fuse a b c) (fuse b a c) (pass.commutative a b c ha hb hc)))))

  associates : associative_fault n fuse ≡ None → (a b c d : ℕ) → a < n → b < n → c < n → d < n → ways_left n fuse a b c d ≡ ways_right n fuse a b c d
  associates e a b c d ha hb hc hd =
      let at_a = none_below (λ (x : ℕ). first_below n (λ y. first_below n (λ z. first_below n (ways_fault n fuse x y z)))) n e a ha in
      let at_b = none_below (λ (y : ℕ). first_below n (λ z. first_below n (ways_fault n fuse a y z))) n at_a b hb in
      let at_c = none_below (λ (z : ℕ). first_below n (ways_fault n fuse a b z)) n at_b c hc in
      eqb-true (ways_left n fuse a b c d) (ways_right n fuse a b c d) (no_fault _ _ (none_below (ways_fault n fuse a b c) n at_c d hd))

  associates_all : RulesPass n fuse → associative_fault n fuse ≡ None
  associates_all pass =
      below_none (λ (a : ℕ). first_below n (λ b. first_below n (λ c. first_below n (ways_fault n fuse a b c)))) n (λ a ha.
      below_none (λ (b : ℕ). first_below n (λ c. first_below n (ways_fault n fuse a b c))) n (λ b hb.
      below_none (λ (c : ℕ). first_below n (ways_fault n fuse a b c)) n (λ c hc.
      below_none (ways_fault n fuse a b c) n (λ d hd.
      passes _ _ (eq-eqb (ways_left n fuse a b c d) (ways_right n fuse a b c d) (pass.associative a b c d ha hb hc hd))))))

  has_dual : single_dual_fault n fuse ≡ None → (a : ℕ) → a < n → (b : ℕ) × IsDual n fuse a b
  has_dual e a ha =
      let one = one_counted (λ b. fuse a b 0) n (eqb-true (count_below n (λ b. fuse a b 0)) 1 (no_fault _ _ (none_below (dual_fault n fuse) n e a ha))) in
      (one.0, record { label = one.1.label; fuses = one.1.passes; single = one.1.single })

  duals_all : RulesPass n fuse → single_dual_fault n fuse ≡ None
  duals_all pass =
      below_none (dual_fault n fuse) n (λ a ha.
      let dual = pass.single_dual a ha in
      passes _ _ (eq-eqb (count_below n (λ b. fuse a b 0)) 1
      (counts_one (λ b. fuse a b 0) n (dual.0, record { label = dual.1.label; passes = dual.1.fuses; single = dual.1.single }))))

  pub no_fault_passes : rules_fault n fuse ≡ None → RulesPass n fuse
  no_fault_passes e =
      let first = neither (commutative_fault n fuse) (option_or (associative_fault n fuse) (single_dual_fault n fuse)) e in
      let second = neither (associative_fault n fuse) (single_dual_fault n fuse) first.1 in
      record { commutative = commutes first.0; associative = associates second.0; single_dual = has_dual second.1 }

  pub passes_no_fault : RulesPass n fuse → rules_fault n fuse ≡ None
  passes_no_fault pass =
      both_none (commutative_fault n fuse) (option_or (associative_fault n fuse) (single_dual_fault n fuse)) (commutes_all pass)
      (both_none (associative_fault n fuse) (single_dual_fault n fuse) (associates_all pass) (duals_all pass))

  pub answers_pass : {A : Type 0} (r : Result A RulesFault) → Answers r (rules_fault n fuse) → IsOk r ↔ RulesPass n fuse
  answers_pass (Ok x) e = (λ _. no_fault_passes e, λ _. refl)
  answers_pass (Err x) e = (λ is. absurd (true≢false (sym is)), λ pass. absurd (not_both (passes_no_fault pass)))
    where
      not_both : rules_fault n fuse ≡ None → ⊥
      not_both f = cc

-- the label at which a search stops is the dual
pub dual_is : (n : ℕ) (fuse : ℕ → ℕ → ℕ → Bool) (a b : ℕ) → RulesPass n fuse → a < n → b < n → fuse a b 0 ≡ true → IsDual n fuse a b
dual_is n fuse a b pass ha hb is =
    let dual = pass.single_dual a ha in
    let same : b ≡ dual.0 = dual.1.single b hb is in
    record { label = hb; fuses = is; single = λ x hx f. dual.1.single x hx f ∙ sym same }

pub some_dual : (n : ℕ) (fuse : ℕ → ℕ → ℕ → Bool) (a : ℕ) → RulesPass n fuse → a < n → ((x : ℕ) → x < n → fuse a x 0 ≡ false) → ⊥
some_dual n fuse a pass ha none = let dual = pass.single_dual a ha in true≢false (sym dual.1.fuses ∙ none dual.0 dual.1.label)
