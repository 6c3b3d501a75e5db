-- The rules of a new category grow triple by triple.
use Rattle.std.proofs.Common.{◌≡◌, ℕ, ◌+◌, ◌<◌, Bool, true, false, ◌&&◌, ◌||◌, ◌==◌, Some, None, refl, sym, subst, ◌∙◌, arith, true≢false, inl, inr, Result, Ok, Err}
use Rattle.std.specs.Prelude.{if◌then◌else◌, nat_lt, OnOk, ◌⊎◌}
use Rattle.std.proofs.lemmas.Bool.{eqb-true, eq-eqb, and_parts, ltb-true, cases_lt}
use Rattle.std.proofs.lemmas.Bool.Decides.{nat_tests}
use Rattle.fusion_rules.specs.Fusion.{Fusion, AddsTriple, Allowed, are_labels, fuses, is_triple, rule_refused, unit_fuses}
use Rattle.fusion_rules.specs.declared.rules.RuleRefused.{RuleRefused}
use Rattle.fusion_rules.specs.declared.rules.RuleRefused.TheVariants.{Unit as IsUnit, Repeated}
use Rattle.symbol_table.specs.Index.{AreThreeLabels}
use Rattle.symbol_table.specs.Symbols.{Symbols}
use Rattle.category_images.specs.Patterns.{ArePart, Grow, HasRules}

either : (x y : Bool) → (x || y) ≡ true → (x ≡ true) ⊎ (y ≡ true)
either true y e = inl refl
either false y e = inr e

or_right : (x y : Bool) → y ≡ true → (x || y) ≡ true
or_right true y e = refl
or_right false y e = e

or_left : (x y : Bool) → x ≡ true → (x || y) ≡ true
or_left true y e = refl
or_left false y e = absurd (true≢false (sym e))

pub both_true : (x y : Bool) → x ≡ true → y ≡ true → (x && y) ≡ true
both_true true y e f = f
both_true false y e f = absurd (true≢false (sym e))

below : (m n : ℕ) → m < n → nat_lt m n ≡ true
below m n h = grind (arith, nat_tests)

are_three : (n a b e : ℕ) → AreThreeLabels n a b e → are_labels n a b e ≡ true
are_three n a b e h = both_true (nat_lt a n) _ (below a n h.0) (both_true (nat_lt b n) _ (below b n h.1) (below e n h.2))

pub three_of : (n a b e : ℕ) → are_labels n a b e ≡ true → AreThreeLabels n a b e
three_of n a b e is =
    let first = and_parts (nat_lt a n) (nat_lt b n && nat_lt e n) is in
    let second = and_parts (nat_lt b n) (nat_lt e n) first.1 in
    (ltb-true a n first.0, ltb-true b n second.0, ltb-true e n second.1)

refused_is : (g : Fusion) (a b e : ℕ) (cause : RuleRefused) → rule_refused g a b e ≡ Some cause → ((a == 0 || b == 0) ≡ true) ⊎ (fuses g a b e ≡ true)
refused_is g a b e cause is = by_tests (a == 0 || b == 0) (fuses g a b e) is
  where
    by_tests : (unit there : Bool) → (if unit then Some IsUnit else (if there then Some Repeated else None)) ≡ Some cause → (unit ≡ true) ⊎ (there ≡ true)
    by_tests true there is = inl refl
    by_tests false true is = inr refl
    by_tests false false is = absurd cc

is_triple_self : (a b e : ℕ) → is_triple a b e a b e ≡ true
is_triple_self a b e = both_true (a == a) _ (eq-eqb a a refl) (both_true (b == b) _ (eq-eqb b b refl) (eq-eqb e e refl))

module _ {E : Type 0} (w : Symbols E) where
  pub same_rules : (g : Fusion) → ArePart w g → Grow w g g
  same_rules g part = record { part = part; keeps = λ a b e is. is }

  pub grow_on : (first now new : Fusion) → Grow w first now → Grow w now new → Grow w first new
  grow_on first now new one two = record { part = two.part; keeps = λ a b e is. two.keeps a b e (one.keeps a b e is) }

module _ {E : Type 0} (w : Symbols E) (has : HasRules w) where
  -- with a unit only unit triples are wanted
  unit_wanted : (a b e : ℕ) → (a == 0 || b == 0) ≡ true → w.fuse a b e ≡ true → unit_fuses w.count a b e ≡ true
  unit_wanted a b e unit is =
      let low = has.labels a b e is in
      both_true (are_labels w.count a b e) _ (are_three w.count a b e low)
      (elim (either (a == 0) (b == 0) unit) [
        | inl first ↦ or_left (a == 0 && b == e) _ (both_true (a == 0) (b == e) first (sym (has.left b e low.1) ∙ subst (λ x. w.fuse x b e ≡ true) (eqb-true a 0 first) is))
        | inr second ↦ or_right (a == 0 && b == e) _ (both_true (b == 0) (a == e) second (sym (has.right a e low.0) ∙ subst (λ x. w.fuse a x e ≡ true) (eqb-true b 0 second) is))
      ])

  added : (old new : Fusion) (a b e : ℕ) → ArePart w old → w.fuse a b e ≡ true → AddsTriple old new a b e → Grow w old new
  added old new a b e part is adds = record {
    part = record {
      count = adds.count ∙ part.count;
      units = λ x y z unit. kept x y z (part.units x y z unit);
      only = λ x y z there. elim (either (is_triple a b e x y z) (fuses old x y z) (sym (adds.triples x y z) ∙ there)) [
        | inl this ↦ same x y z this
        | inr before ↦ part.only x y z before
      ];
    };
    keeps = kept;
  }
    where
      kept : (x y z : ℕ) → fuses old x y z ≡ true → fuses new x y z ≡ true
      kept x y z before = adds.triples x y z ∙ or_right (is_triple a b e x y z) (fuses old x y z) before

      same : (x y z : ℕ) → is_triple a b e x y z ≡ true → w.fuse x y z ≡ true
      same x y z this =
          let p = and_parts (x == a) (y == b && z == e) this in
          let q = and_parts (y == b) (z == e) p.1 in
          rw (eqb-true x a p.0, eqb-true y b q.0, eqb-true z e q.1) is

  -- adding a triple that is wanted: it is there then, also where it is refused
  pub triple_there : {A : Type 0} (r : Result A RuleRefused) (old new : Fusion) (a b e : ℕ) → ArePart w old → w.fuse a b e ≡ true → Allowed r old new a b e
      → OnOk r (AddsTriple old new a b e) → Grow w old new × (fuses new a b e ≡ true)
  triple_there (Ok x) old new a b e part is allowed adds =
      (added old new a b e part is adds, adds.triples a b e ∙ or_left (is_triple a b e a b e) _ (is_triple_self a b e))
  triple_there (Err cause) old new a b e part is allowed adds =
      subst (λ (g : Fusion). Grow w old g × (fuses g a b e ≡ true)) (sym allowed.1) (
        same_rules w old part,
        elim (refused_is old a b e cause allowed.0) [
          | inl unit ↦ part.units a b e (unit_wanted a b e unit is)
          | inr there ↦ there
        ],
      )

-- one label more
pub one_more : (P : ℕ → Type 0) (t : ℕ) → ((s : ℕ) → s < t → P s) → P t → (s : ℕ) → s < t + 1 → P s
one_more P t before here s h = elim (cases_lt s t) [
  | inl less ↦ before s less
  | inr more ↦ let same : t ≡ s = omega arith in subst P same here
]
