-- The laws of lawful symbols at all labels: off the indices of a law both sides are zero.
use Rattle.std.proofs.Common.{◌≡◌, ℕ, zero, suc, ◌<◌, Bool, true, false, ◌&&◌, ◌||◌, ◌==◌, [], ◌∷◌, refl, ap, ap₂, sym, ◌∙◌, arith, inl, inr, true≢false}
use Rattle.std.specs.Prelude.{All}
use Rattle.std.proofs.lemmas.List.Elements.{All-from_recursion}
use Rattle.std.proofs.lemmas.Bool.Decides.{nat_tests}
use Rattle.ring_laws.specs.Ring.{Ring}
use Rattle.ring_laws.specs.Sums.{total}
use Rattle.ring_laws.proofs.SumLemmas.{true_or_false, and_off, and_right}
use Rattle.symbol_table.specs.Symbols.{Symbols}
use Rattle.symbol_table.specs.Laws.{Equation, Holds, IsLawful, where_so, hexagon_says, pentagon_says}
use Rattle.symbol_table.specs.AllLabels.{IsProper, HasUnit, HasEquations, goes_left, goes_right, mark}
use Rattle.symbol_table.specs.declared.law.Law.TheVariants.{UnitF, UnitR, UnitW, InverseF, InverseH, Pentagon, HexagonOne, HexagonTwo}
use Rattle.symbol_table.proofs.LawLemmas.{obeys}
use Rattle.symbol_table.proofs.MemberLemmas.{HasZero}
use Rattle.symbol_table.proofs.RuleLemmas.{both}

and_true : (b : Bool) → (b && true) ≡ b
and_true true = refl
and_true false = refl

same_test : (a b : ℕ) → (a == b) ≡ (b == a)
same_test a b = grind (arith, nat_tests)

-- one of four vertices isn't admissible
pub first_off : (x y z u : Bool) → x ≡ false → (x && (y && (z && u))) ≡ false
first_off x y z u e = rw e refl

pub second_off : (x y z u : Bool) → y ≡ false → (x && (y && (z && u))) ≡ false
second_off true y z u e = rw e refl
second_off false y z u e = refl

pub third_off : (x y z u : Bool) → z ≡ false → (x && (y && (z && u))) ≡ false
third_off true true z u e = rw e refl
third_off true false z u e = refl
third_off false y z u e = refl

pub fourth_off : (x y z u : Bool) → u ≡ false → (x && (y && (z && u))) ≡ false
fourth_off true true true u e = e
fourth_off true true false u e = refl
fourth_off true false z u e = refl
fourth_off false y z u e = refl

left_pair_off : (x y z u : Bool) → (x && y) ≡ false → (x && (y && (z && u))) ≡ false
left_pair_off true y z u e = rw e refl
left_pair_off false y z u e = refl

right_pair_off : (x y z u : Bool) → (z && u) ≡ false → (x && (y && (z && u))) ≡ false
right_pair_off true true z u e = e
right_pair_off true false z u e = refl
right_pair_off false y z u e = refl

-- what is said under a test that is true
said : {E : Type 0} (r : Ring E) (so : Bool) (equation : Equation E) → so ≡ true → Holds r (where_so so equation) → Holds r equation
said r true equation is h = h
said r false equation is h = absurd (true≢false (sym is))

module _ {E : Type 0} (c : Symbols E) (basic : HasZero c.ring) (proper : IsProper c) (lawful : IsLawful c) where
  abbrev n : ℕ
  n = c.count

  abbrev x : E → E → E
  x = c.ring.product

  -- F and H are zero off each of their vertices
  f_1 : (a b m d e f : ℕ) → c.fuse a b e ≡ false → c.f a b m d e f ≡ c.ring.zero
  f_1 a b m d e f off = proper.f_off a b m d e f (first_off (c.fuse a b e) (c.fuse e m d) (c.fuse b m f) (c.fuse a f d) off)

  f_2 : (a b m d e f : ℕ) → c.fuse e m d ≡ false → c.f a b m d e f ≡ c.ring.zero
  f_2 a b m d e f off = proper.f_off a b m d e f (second_off (c.fuse a b e) (c.fuse e m d) (c.fuse b m f) (c.fuse a f d) off)

  f_3 : (a b m d e f : ℕ) → c.fuse b m f ≡ false → c.f a b m d e f ≡ c.ring.zero
  f_3 a b m d e f off = proper.f_off a b m d e f (third_off (c.fuse a b e) (c.fuse e m d) (c.fuse b m f) (c.fuse a f d) off)

  f_4 : (a b m d e f : ℕ) → c.fuse a f d ≡ false → c.f a b m d e f ≡ c.ring.zero
  f_4 a b m d e f off = proper.f_off a b m d e f (fourth_off (c.fuse a b e) (c.fuse e m d) (c.fuse b m f) (c.fuse a f d) off)

  f_left : (a b m d e f : ℕ) → goes_left c a b m d e ≡ false → c.f a b m d e f ≡ c.ring.zero
  f_left a b m d e f off = proper.f_off a b m d e f (left_pair_off (c.fuse a b e) (c.fuse e m d) (c.fuse b m f) (c.fuse a f d) off)

  f_right : (a b m d e f : ℕ) → goes_right c a b m d f ≡ false → c.f a b m d e f ≡ c.ring.zero
  f_right a b m d e f off = proper.f_off a b m d e f (right_pair_off (c.fuse a b e) (c.fuse e m d) (c.fuse b m f) (c.fuse a f d) off)

  h_left : (a b m d f e : ℕ) → goes_left c a b m d e ≡ false → c.h a b m d f e ≡ c.ring.zero
  h_left a b m d f e off = proper.h_off a b m d f e (left_pair_off (c.fuse a b e) (c.fuse e m d) (c.fuse b m f) (c.fuse a f d) off)

  h_right : (a b m d f e : ℕ) → goes_right c a b m d f ≡ false → c.h a b m d f e ≡ c.ring.zero
  h_right a b m d f e off = proper.h_off a b m d f e (right_pair_off (c.fuse a b e) (c.fuse e m d) (c.fuse b m f) (c.fuse a f d) off)

  left_none : (a b : E) → a ≡ c.ring.zero → x a b ≡ c.ring.zero
  left_none a b e = ap (λ y. x y b) e ∙ basic.left b

  right_none : (a b : E) → b ≡ c.ring.zero → x a b ≡ c.ring.zero
  right_none a b e = ap (x a) e ∙ basic.right a

  total_none : (m : ℕ) (T : ℕ → E) → ((t : ℕ) → T t ≡ c.ring.zero) → total c.ring m T ≡ c.ring.zero
  total_none zero T none = refl
  total_none (suc m) T none = ap₂ c.ring.sum (total_none m T none) (none m) ∙ basic.sum

  no_terms : (a : E) (T : ℕ → E) → a ≡ c.ring.zero → ((e : ℕ) → T e ≡ c.ring.zero) → a ≡ total c.ring n T
  no_terms a T e none = e ∙ sym (total_none n T none)

  marked : (a b : Bool) → a ≡ b → mark c a ≡ mark c b
  marked a b e = ap (mark c) e

  -- two matrices that are inverse at the allowed places, and zero elsewhere, at all places
  inverse_all : (ok : ℕ → Bool) (X Y : ℕ → ℕ → E) (e g : ℕ) → ((f : ℕ) → ok e ≡ false → X e f ≡ c.ring.zero) → ((f : ℕ) → ok g ≡ false → Y f g ≡ c.ring.zero)
      → (ok e ≡ true → ok g ≡ true → total c.ring n (λ f. x (X e f) (Y f g)) ≡ mark c (e == g))
      → total c.ring n (λ f. x (X e f) (Y f g)) ≡ mark c (g == e && ok g)
  inverse_all ok X Y e g x_off y_off on =
      elim (true_or_false (ok e)) [
        | inr off ↦ total_none n _ (λ f. left_none _ _ (x_off f off)) ∙ sym (marked _ false (and_off ok g e off))
        | inl at_e ↦ elim (true_or_false (ok g)) [
          | inr off ↦ total_none n _ (λ f. right_none _ _ (y_off f off)) ∙ sym (marked _ false (and_right (g == e) _ off))
          | inl at_g ↦ on at_e at_g ∙ marked _ _ (same_test e g ∙ sym (ap (λ y. g == e && y) at_g ∙ and_true (g == e)))
        ]
      ]

  inverse_f_at : (a b m d e g : ℕ) → goes_left c a b m d e ≡ true → goes_left c a b m d g ≡ true
      → total c.ring n (λ f. x (c.f a b m d e f) (c.h a b m d f g)) ≡ mark c (e == g)
  inverse_f_at a b m d e g on at_g =
      let left = both (c.fuse a b e) (c.fuse e m d) on in
      let right = both (c.fuse a b g) (c.fuse g m d) at_g in
      let low = proper.labels a b e left.0 in
      let last = proper.labels e m d left.1 in
      obeys c lawful InverseF (a ∷ b ∷ m ∷ d ∷ e ∷ g ∷ []) refl
      (All-from_recursion (λ t. t < n) (a ∷ b ∷ m ∷ d ∷ e ∷ g ∷ []) (low.0, (low.1, (last.1, (last.2, (low.2, ((proper.labels a b g right.0).2, tt)))))))
      (rw (left.0, left.1, right.0, right.1) refl)

  inverse_h_at : (a b m d f g : ℕ) → goes_right c a b m d f ≡ true → goes_right c a b m d g ≡ true
      → total c.ring n (λ e. x (c.h a b m d f e) (c.f a b m d e g)) ≡ mark c (f == g)
  inverse_h_at a b m d f g on at_g =
      let left = both (c.fuse b m f) (c.fuse a f d) on in
      let right = both (c.fuse b m g) (c.fuse a g d) at_g in
      let low = proper.labels b m f left.0 in
      let last = proper.labels a f d left.1 in
      obeys c lawful InverseH (a ∷ b ∷ m ∷ d ∷ f ∷ g ∷ []) refl
      (All-from_recursion (λ t. t < n) (a ∷ b ∷ m ∷ d ∷ f ∷ g ∷ []) (last.0, (low.0, (low.1, (last.2, (low.2, ((proper.labels b m g right.0).2, tt)))))))
      (rw (left.0, left.1, right.0, right.1) refl)

  pentagon_at : (p l m r u y z f q : ℕ) → c.fuse p l u ≡ true → c.fuse u m y ≡ true → c.fuse y r z ≡ true → c.fuse m r f ≡ true → c.fuse l f q ≡ true → c.fuse p q z ≡ true
      → Holds c.ring (pentagon_says c p l m r u y z f q)
  pentagon_at p l m r u y z f q plu umy yrz mrf lfq pqz =
      let one = proper.labels p l u plu in
      let two = proper.labels u m y umy in
      let three = proper.labels y r z yrz in
      obeys c lawful Pentagon (p ∷ l ∷ m ∷ r ∷ u ∷ y ∷ z ∷ f ∷ q ∷ []) refl
      (All-from_recursion (λ t. t < n) (p ∷ l ∷ m ∷ r ∷ u ∷ y ∷ z ∷ f ∷ q ∷ [])
      (one.0, (one.1, (two.1, (three.1, (one.2, (two.2, (three.2, ((proper.labels m r f mrf).2, ((proper.labels l f q lfq).2, tt))))))))))
      (rw (plu, umy, yrz, mrf, lfq, pqz) refl)

  -- the pentagon: each vertex of the index stands on both sides
  pub pentagon_all : (p l m r u y z f q : ℕ) → Holds c.ring (pentagon_says c p l m r u y z f q)
  pentagon_all p l m r u y z f q =
      elim (true_or_false (c.fuse p l u)) [
        | inr off ↦ no_terms _ _ (right_none _ _ (f_1 p l f z u q off)) (λ e. left_none _ _ (left_none _ _ (f_1 p l m y u e off)))
        | inl plu ↦ elim (true_or_false (c.fuse u m y)) [
          | inr off ↦ no_terms _ _ (left_none _ _ (f_1 u m r z y f off)) (λ e. left_none _ _ (left_none _ _ (f_2 p l m y u e off)))
          | inl umy ↦ elim (true_or_false (c.fuse y r z)) [
            | inr off ↦ no_terms _ _ (left_none _ _ (f_2 u m r z y f off)) (λ e. left_none _ _ (right_none _ _ (f_2 p e r z y q off)))
            | inl yrz ↦ elim (true_or_false (c.fuse m r f)) [
              | inr off ↦ no_terms _ _ (left_none _ _ (f_3 u m r z y f off)) (λ e. right_none _ _ (f_3 l m r q e f off))
              | inl mrf ↦ elim (true_or_false (c.fuse l f q)) [
                | inr off ↦ no_terms _ _ (right_none _ _ (f_3 p l f z u q off)) (λ e. right_none _ _ (f_4 l m r q e f off))
                | inl lfq ↦ elim (true_or_false (c.fuse p q z)) [
                  | inr off ↦ no_terms _ _ (right_none _ _ (f_4 p l f z u q off)) (λ e. left_none _ _ (right_none _ _ (f_4 p e r z y q off)))
                  | inl pqz ↦ pentagon_at p l m r u y z f q plu umy yrz mrf lfq pqz
                ]
              ]
            ]
          ]
        ]
      ]

  -- a hexagon, whose exchange is zero where not admissible
  hexagon_all : (ex : ℕ → ℕ → ℕ → E) → ((a b e : ℕ) → c.fuse a b e ≡ false → ex a b e ≡ c.ring.zero)
      → ((a b m d e f : ℕ) → c.fuse a b e ≡ true → c.fuse e m d ≡ true → c.fuse m a f ≡ true → c.fuse b f d ≡ true → Holds c.ring (hexagon_says c ex a b m d e f))
      → (a b m d e f : ℕ) → Holds c.ring (hexagon_says c ex a b m d e f)
  hexagon_all ex ex_off at a b m d e f =
      elim (true_or_false (c.fuse a b e)) [
        | inr off ↦ no_terms _ _ (left_none _ _ (left_none _ _ (ex_off a b e off))) (λ g. left_none _ _ (left_none _ _ (f_1 a b m d e g off)))
        | inl abe ↦ elim (true_or_false (c.fuse e m d)) [
          | inr off ↦ no_terms _ _ (left_none _ _ (right_none _ _ (f_2 b a m d e f off))) (λ g. left_none _ _ (left_none _ _ (f_2 a b m d e g off)))
          | inl emd ↦ elim (true_or_false (c.fuse m a f)) [
            | inr off ↦ no_terms _ _ (right_none _ _ (ex_off a m f (proper.commutes a m f ∙ off))) (λ g. right_none _ _ (f_3 b m a d g f off))
            | inl maf ↦ elim (true_or_false (c.fuse b f d)) [
              | inr off ↦ no_terms _ _ (left_none _ _ (right_none _ _ (f_4 b a m d e f off))) (λ g. right_none _ _ (f_4 b m a d g f off))
              | inl bfd ↦ at a b m d e f abe emd maf bfd
            ]
          ]
        ]
      ]

  hexagon_labels : (a b m d e f : ℕ) → c.fuse a b e ≡ true → c.fuse e m d ≡ true → c.fuse m a f ≡ true → All (λ t. t < n) (a ∷ b ∷ m ∷ d ∷ e ∷ f ∷ [])
  hexagon_labels a b m d e f abe emd maf =
      let one = proper.labels a b e abe in
      let two = proper.labels e m d emd in
      All-from_recursion (λ t. t < n) (a ∷ b ∷ m ∷ d ∷ e ∷ f ∷ []) (one.0, (one.1, (two.1, (two.2, (one.2, ((proper.labels m a f maf).2, tt))))))

  -- every equation at all labels
  pub has_equations : HasEquations c
  has_equations = record {
    inverse_f = λ a b m d e g. inverse_all (goes_left c a b m d) (c.f a b m d) (c.h a b m d) e g (λ f. f_left a b m d e f) (λ f. h_left a b m d f g) (inverse_f_at a b m d e g);
    inverse_h = λ a b m d f g. inverse_all (goes_right c a b m d) (c.h a b m d) (c.f a b m d) f g (λ e. h_right a b m d f e) (λ e. f_right a b m d e g) (inverse_h_at a b m d f g);
    pentagon = pentagon_all;
    hexagon_one = hexagon_all c.r proper.r_off (λ a b m d e f abe emd maf bfd.
        obeys c lawful HexagonOne (a ∷ b ∷ m ∷ d ∷ e ∷ f ∷ []) refl (hexagon_labels a b m d e f abe emd maf) (rw (abe, emd, maf, bfd) refl));
    hexagon_two = hexagon_all c.s proper.s_off (λ a b m d e f abe emd maf bfd.
        obeys c lawful HexagonTwo (a ∷ b ∷ m ∷ d ∷ e ∷ f ∷ []) refl (hexagon_labels a b m d e f abe emd maf) (rw (abe, emd, maf, bfd) refl));
  }

  vertex_labels : (a b e : ℕ) → c.fuse a b e ≡ true → All (λ t. t < n) (a ∷ b ∷ e ∷ [])
  vertex_labels a b e on =
      let low = proper.labels a b e on in
      All-from_recursion (λ t. t < n) (a ∷ b ∷ e ∷ []) (low.0, (low.1, (low.2, tt)))

  four : (y z u v : Bool) → (y && (z && (u && v))) ≡ true → (y ≡ true) × (z ≡ true) × (u ≡ true) × (v ≡ true)
  four y z u v h =
      let one = both y (z && (u && v)) h in
      let two = both z (u && v) one.1 in
      let three = both u v two.1 in
      (one.0, two.0, three.0, three.1)

  -- the unit
  pub has_unit : 0 < n → ((a b : ℕ) → a < n → c.fuse 0 a b ≡ (a == b)) → ((a b : ℕ) → a < n → c.fuse a 0 b ≡ (a == b)) → HasUnit c
  has_unit some left right = record {
    some = some;
    left = left;
    right = right;
    f = λ a b m d e f on so.
        let on4 = four (c.fuse a b e) (c.fuse e m d) (c.fuse b m f) (c.fuse a f d) on in
        let one = proper.labels a b e on4.0 in
        let two = proper.labels e m d on4.1 in
        said c.ring (a == 0 || (b == 0 || m == 0)) _ so
        (obeys c lawful UnitF (a ∷ b ∷ m ∷ d ∷ e ∷ f ∷ []) refl
        (All-from_recursion (λ t. t < n) (a ∷ b ∷ m ∷ d ∷ e ∷ f ∷ []) (one.0, (one.1, (two.1, (two.2, (one.2, ((proper.labels b m f on4.2).2, tt)))))))
        (rw (on4.0, on4.1, on4.2, on4.3) refl));
    r = λ a b e on so. said c.ring (a == 0 || b == 0) _ so (obeys c lawful UnitR (a ∷ b ∷ e ∷ []) refl (vertex_labels a b e on) (rw on refl));
    w = λ a b e on so. said c.ring (a == 0 || b == 0) _ so (obeys c lawful UnitW (a ∷ b ∷ e ∷ []) refl (vertex_labels a b e on) (rw on refl));
  }
