-- The mirror of a category is a category, and its mirror is the category.
use Rattle.std.proofs.Common.{◌≡◌, ℕ, ◌<◌, Bool, true, false, ◌||◌, ◌==◌, refl, ap, sym, ◌∙◌, arith, inl, inr}
use Rattle.std.specs.Prelude.{nat_lt, slice_index}
use Rattle.std.proofs.lemmas.Bool.{eqb-true, eq-eqb}
use Rattle.std.proofs.lemmas.Bool.Decides.{nat_tests}
use Rattle.ring_laws.specs.Ring.{Held, RingLaws}
use Rattle.ring_laws.proofs.SumLemmas as S
use Rattle.symbol_table.specs.Symbols.{Symbols}
use Rattle.symbol_table.specs.Laws.{Holds, IsLawful, LawHolds, Same, unit_mark_says, unit_says, where_so}
use Rattle.symbol_table.specs.AllLabels.{HasUnit, IsProper, IsWeighted}
use Rattle.symbol_table.specs.declared.law.Law.{Law}
use Rattle.symbol_table.specs.declared.law.Law.TheVariants.{UnitF, UnitR, UnitW, RealW, InverseW, NormR, DeriveH, DeriveS, InverseF, InverseH, Rigid, Pentagon, HexagonOne, HexagonTwo, UnitTwist, Twist, UnitLoop, LoopSum, LoopF}
use Rattle.symbol_table.proofs.LawLemmas.{InVersion, obeys}
use Rattle.symbol_table.proofs.RuleLemmas.{both}
use Rattle.image_laws.specs.Mirrors.{HasMirror, dual_in, mirror_of, mirrored_twist}
use Rattle.image_laws.proofs.GivenLemmas.{AreGiven, HasMarks, all_in_version, given_again, s_by}
use Rattle.image_laws.proofs.InverseLemmas as I

module _ {E : Type 0} (c : Symbols E) {K : Held E} (laws : RingLaws c.ring K) (proper : IsProper c) (unit : HasUnit c) (weighted : IsWeighted c) (lawful : IsLawful c) where
  abbrev o : E → E → E
  o = c.ring.product

  abbrev mirror : Symbols E
  mirror = mirror_of c

  -- in version 2 its twists are the mirrored ones
  twist_is : c.version ≡ 2 → (a : ℕ) → mirror.twist a ≡ mirrored_twist c a
  twist_is second a = S.if_yes (c.version == 2) (mirrored_twist c a) (c.twist a) (eq-eqb c.version 2 second)

  turned : c.version ≡ 2 → (a : ℕ) → a < c.count → o (mirrored_twist c a) (c.twist a) ≡ c.ring.one
  turned second a below = I.turned_back c laws lawful second unit.some proper.labels a below

  one_where : (so : Bool) (x : E) → (so ≡ true → x ≡ c.ring.one) → Holds c.ring (where_so so (Same x c.ring.one))
  one_where true x h = h refl
  one_where false x h = tt

  unit_s_at : (a b e : ℕ) → c.fuse a b e ≡ true → Holds c.ring (unit_says mirror c.s a b e)
  unit_s_at a b e on = one_where (a == 0 || b == 0) (c.s a b e) (I.unit_s c laws proper weighted unit a b e on)

  unit_twist_at : c.version ≡ 2 → (a : ℕ) → a < c.count → Holds c.ring (unit_mark_says mirror mirror.twist a)
  unit_twist_at second a below =
      one_where (a == 0) (mirror.twist a) (λ so.
      let one : c.twist a ≡ c.ring.one = ap c.twist (eqb-true a 0 so) ∙ I.unit_twist c laws lawful second unit.some in
      twist_is second a
      ∙ sym (laws.product-one (mirrored_twist c a) (laws.product_is _ _)) ∙ ap (o (mirrored_twist c a)) (sym one) ∙ turned second a below)

  twist_at : c.version ≡ 2 → (a b e : ℕ) → c.fuse a b e ≡ true
      → o (o (o (c.s a b e) (c.s b a e)) (mirror.twist a)) (mirror.twist b) ≡ mirror.twist e
  twist_at second a b e on =
      let low = proper.labels a b e on in
      (λ j. o (o (o (c.s a b e) (c.s b a e)) (twist_is second a j)) (twist_is second b j))
      ∙ I.inverse_twist c laws (c.r a b e) (c.r b a e) (c.s a b e) (c.s b a e) (c.twist a) (c.twist b) (c.twist e)
      (mirrored_twist c a) (mirrored_twist c b) (mirrored_twist c e) (laws.product_is _ _)
      (I.undoes c laws proper weighted a b e on) (I.undoes c laws proper weighted b a e (I.other_way c laws proper weighted a b e on))
      (turned second a low.0) (turned second b low.1) (turned second e low.2)
      (I.twist_at c laws lawful second a b e low on)
      ∙ sym (twist_is second e)

  -- every law of the mirror is one of the category: the hexagons change places
  mirrored : (law : Law) → InVersion c.version (LawHolds mirror) law
  mirrored UnitF = obeys c lawful UnitF
  mirrored UnitR = λ i long below on. unit_s_at (slice_index i 0) (slice_index i 1) (slice_index i 2) (both _ true on).0
  mirrored UnitW = obeys c lawful UnitW
  mirrored RealW = obeys c lawful RealW
  mirrored InverseW = obeys c lawful InverseW
  mirrored NormR = λ i long below on. I.norm_s c laws proper weighted (slice_index i 0) (slice_index i 1) (slice_index i 2)
  mirrored DeriveH = obeys c lawful DeriveH
  mirrored DeriveS = obeys c lawful DeriveS
  mirrored InverseF = obeys c lawful InverseF
  mirrored InverseH = obeys c lawful InverseH
  mirrored Rigid = obeys c lawful Rigid
  mirrored Pentagon = obeys c lawful Pentagon
  mirrored HexagonOne = obeys c lawful HexagonTwo
  mirrored HexagonTwo = obeys c lawful HexagonOne
  mirrored UnitTwist = λ second i long below on. unit_twist_at second (slice_index i 0) (below 0 0 (omega (arith, long)))
  mirrored Twist = λ second i long below on. twist_at second (slice_index i 0) (slice_index i 1) (slice_index i 2) (both _ true on).0
  mirrored UnitLoop = obeys c lawful UnitLoop
  mirrored LoopSum = obeys c lawful LoopSum
  mirrored LoopF = obeys c lawful LoopF

  mirror_lawful : IsLawful mirror
  mirror_lawful = record { rules = lawful.rules; laws = all_in_version c.version (LawHolds mirror) mirrored }

  -- what is no label fuses to nothing
  no_fuse : (a b e : ℕ) → nat_lt a c.count ≡ false → c.fuse a b e ≡ false
  no_fuse a b e off =
      elim (S.true_or_false (c.fuse a b e)) [
        | inl on ↦ let low = proper.labels a b e on in absurd (within low.0)
        | inr none ↦ none
      ]
    where
      within : a < c.count → ⊥
      within low = grind (arith, nat_tests)

  nothing : (x y z : E) → x ≡ c.ring.zero → o (o x y) z ≡ c.ring.zero
  nothing x y z none = ap (λ t. o (o t y) z) none ∙ ap (λ t. o t z) (S.zero-product laws y) ∙ S.zero-product laws z

  module _ (are : AreGiven c) where
    mirror_given : AreGiven mirror
    mirror_given = record {
      h = are.h;
      s = λ a b e.
          elim (S.true_or_false (c.fuse a b e)) [
            | inl on ↦ sym (I.r_again c laws proper weighted a b e on) ∙ sym (S.if_yes (c.fuse a b e) (s_by mirror a b e) c.ring.zero on)
            | inr off ↦ are.r_off a b e off ∙ sym (S.if_no (c.fuse a b e) (s_by mirror a b e) c.ring.zero off)
          ];
      f_off = are.f_off;
      r_off = proper.s_off;
      w_off = are.w_off;
      v_off = are.v_off;
      twist_off = λ a off.
          elim (S.true_or_false (c.version == 2)) [
            | inl second ↦
                S.if_yes (c.version == 2) (mirrored_twist c a) (c.twist a) second
                ∙ nothing _ (c.r (dual_in c a) a 0) (c.twist (dual_in c a)) (proper.r_off a (dual_in c a) 0 (no_fuse a (dual_in c a) 0 off))
            | inr first ↦ S.if_no (c.version == 2) (mirrored_twist c a) (c.twist a) first ∙ are.twist_off a off
          ];
      loop_off = are.loop_off;
    }

    -- the twist of the mirror's mirror is an inverse of an inverse
    twist_again : HasMarks c → (a : ℕ) → (mirror_of mirror).twist a ≡ c.twist a
    twist_again marks a =
        elim (S.true_or_false (c.version == 2)) [
          | inr first ↦ S.if_no (c.version == 2) (mirrored_twist mirror a) (mirror.twist a) first ∙ S.if_no (c.version == 2) (mirrored_twist c a) (c.twist a) first
          | inl on ↦
              S.if_yes (c.version == 2) (mirrored_twist mirror a) (mirror.twist a) on
              ∙ (elim (S.true_or_false (nat_lt a c.count)) [
                | inl low ↦ at_label (eqb-true c.version 2 on) low
                | inr off ↦ nothing _ (c.s (dual_in c a) a 0) (mirror.twist (dual_in c a)) (proper.s_off a (dual_in c a) 0 (no_fuse a (dual_in c a) 0 off)) ∙ sym (are.twist_off a off)
              ])
        ]
      where
        at_label : c.version ≡ 2 → nat_lt a c.count ≡ true → mirrored_twist mirror a ≡ c.twist a
        at_label second low =
            let below : a < c.count = grind (arith, nat_tests) in
            I.inverse_alone c laws (mirrored_twist mirror a) (c.twist a) (mirrored_twist c a) (laws.product_is _ _) (marks.twist_is a)
            (ap (o (mirrored_twist mirror a)) (sym (twist_is second a)) ∙ I.turned_back mirror laws mirror_lawful second unit.some proper.labels a below)
            (laws.product_comm _ _ ∙ turned second a below)

    -- the mirror of a category
    pub has_mirror : HasMarks c → HasMirror c
    has_mirror marks = record {
      category = record { lawful = mirror_lawful; given = given_again mirror mirror_given };
      again = λ j. record c { twist = λ a. twist_again marks a j };
    }
