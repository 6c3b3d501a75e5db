-- The image of a category under a map of its ring that another one undoes is a category.
use Rattle.std.proofs.Common.{◌≡◌, ◌≢◌, ℕ, zero, suc, Bool, true, false, List, refl, ap, sym, ◌∙◌}
use Rattle.std.specs.Prelude.{IsTrue, if◌then◌else◌, ◌==◌, ◌||◌, slice_index}
use Rattle.std.proofs.lemmas.List.Elements.{All-weaker}
use Rattle.ring_laws.specs.Ring.{Held, RingLaws}
use Rattle.ring_laws.specs.Sums.{total}
use Rattle.fusion_rules.specs.Check.{dual_of}
use Rattle.symbol_table.specs.Symbols.{Symbols, f_admissible}
use Rattle.symbol_table.specs.Laws.{Equation, Same, Holds, IsLawful, LawHolds, laws_of, where_so, at1, at2, at3, at6, at9, unit_f_says, unit_says, real_w_says, inverse_w_says, norm_r_says, inverse_f_says, inverse_h_says, rigid_says, pentagon_says, hexagon_says, unit_mark_says, twist_says, loop_sum_says, loop_f_says}
use Rattle.symbol_table.specs.AllLabels.{IsProper}
use Rattle.symbol_table.specs.declared.law.Law.{Law}
use Rattle.symbol_table.specs.declared.law.Law.TheVariants.{UnitF, UnitR, UnitW, RealW, InverseW, NormR, DeriveH, DeriveS, InverseF, InverseH, Rigid, Pentagon, HexagonOne, HexagonTwo, UnitTwist, Twist, UnitLoop, LoopSum, LoopF}
use Rattle.cyclo_core.specs.ImageLaws.{IsStarMap}
use Rattle.image_laws.specs.Images.{HasImages, IsUndoneBy, image_of}
use Rattle.image_laws.proofs.GivenLemmas.{AreGiven, HasMarks, given_again, h_by, s_by}

module _ {E : Type 0} (c : Symbols E) (F : E → E) (map : IsStarMap c.ring F) where
  abbrev o : E → E → E
  o = c.ring.product

  abbrev image : Symbols E
  image = image_of F c

  abbrev Is : Equation E → Type 0
  Is = Holds c.ring

  -- what is said at labels is said at an index
  on1 : (P Q : ℕ → Equation E) → ((a : ℕ) → Is (P a) → Is (Q a)) → (i : List ℕ) → Is (at1 P i) → Is (at1 Q i)
  on1 P Q go i = go (slice_index i 0)

  on2 : (P Q : ℕ → ℕ → Equation E) → ((a b : ℕ) → Is (P a b) → Is (Q a b)) → (i : List ℕ) → Is (at2 P i) → Is (at2 Q i)
  on2 P Q go i = go (slice_index i 0) (slice_index i 1)

  on3 : (P Q : ℕ → ℕ → ℕ → Equation E) → ((a b k : ℕ) → Is (P a b k) → Is (Q a b k)) → (i : List ℕ) → Is (at3 P i) → Is (at3 Q i)
  on3 P Q go i = go (slice_index i 0) (slice_index i 1) (slice_index i 2)

  on6 : (P Q : ℕ → ℕ → ℕ → ℕ → ℕ → ℕ → Equation E) → ((a b k d e f : ℕ) → Is (P a b k d e f) → Is (Q a b k d e f)) → (i : List ℕ) → Is (at6 P i) → Is (at6 Q i)
  on6 P Q go i = go (slice_index i 0) (slice_index i 1) (slice_index i 2) (slice_index i 3) (slice_index i 4) (slice_index i 5)

  on9 : (P Q : ℕ → ℕ → ℕ → ℕ → ℕ → ℕ → ℕ → ℕ → ℕ → Equation E)
      → ((p l m r x y z f q : ℕ) → Is (P p l m r x y z f q) → Is (Q p l m r x y z f q)) → (i : List ℕ) → Is (at9 P i) → Is (at9 Q i)
  on9 P Q go i =
      go (slice_index i 0) (slice_index i 1) (slice_index i 2) (slice_index i 3) (slice_index i 4) (slice_index i 5) (slice_index i 6) (slice_index i 7) (slice_index i 8)

  three : (x y z : E) → F (o (o x y) z) ≡ o (o (F x) (F y)) (F z)
  three x y z = map.product (o x y) z ∙ ap (λ t. o t (F z)) (map.product x y)

  four : (x y z u : E) → F (o (o (o x y) z) u) ≡ o (o (o (F x) (F y)) (F z)) (F u)
  four x y z u = map.product (o (o x y) z) u ∙ ap (λ t. o t (F u)) (three x y z)

  -- the image of a sum is the sum of the images
  over_sum : (n : ℕ) (f g : ℕ → E) → ((t : ℕ) → F (f t) ≡ g t) → F (total c.ring n f) ≡ total c.ring n g
  over_sum zero f g h = map.zero
  over_sum (suc n) f g h = map.sum (total c.ring n f) (f n) ∙ (λ j. c.ring.sum (over_sum n f g h j) (h n j))

  in_case : (b : Bool) (x : E) → F (if b then x else c.ring.zero) ≡ (if b then F x else c.ring.zero)
  in_case true x = refl
  in_case false x = map.zero

  of_mark : (b : Bool) → F (if b then c.ring.one else c.ring.zero) ≡ (if b then c.ring.one else c.ring.zero)
  of_mark b = in_case b c.ring.one ∙ ap (λ t. if b then t else c.ring.zero) map.one

  -- what is said of 1 under a test
  one_said : (so : Bool) (x : E) → Is (where_so so (Same x c.ring.one)) → Is (where_so so (Same (F x) c.ring.one))
  one_said true x h = ap F h ∙ map.one
  one_said false x h = tt

  unit_f_at : (a b k d e f : ℕ) → Is (unit_f_says c a b k d e f) → Is (unit_f_says image a b k d e f)
  unit_f_at a b k d e f = one_said (a == 0 || (b == 0 || k == 0)) (c.f a b k d e f)

  unit_at : (symbol : ℕ → ℕ → ℕ → E) (a b k : ℕ) → Is (unit_says c symbol a b k) → Is (unit_says image (λ a b k. F (symbol a b k)) a b k)
  unit_at symbol a b k = one_said (a == 0 || b == 0) (symbol a b k)

  unit_mark_at : (mark : ℕ → E) (a : ℕ) → Is (unit_mark_says c mark a) → Is (unit_mark_says image (λ a. F (mark a)) a)
  unit_mark_at mark a = one_said (a == 0) (mark a)

  real_w_at : (a b k : ℕ) → Is (real_w_says c a b k) → Is (real_w_says image a b k)
  real_w_at a b k h = sym (map.conjugate (c.w a b k)) ∙ ap F h

  inverse_w_at : (a b k : ℕ) → Is (inverse_w_says c a b k) → Is (inverse_w_says image a b k)
  inverse_w_at a b k h = sym (map.product (c.w a b k) (c.v a b k)) ∙ ap F h ∙ map.one

  norm_r_at : (a b k : ℕ) → Is (norm_r_says c a b k) → Is (norm_r_says image a b k)
  norm_r_at a b k h =
      ap (λ t. o (o (F (c.r a b k)) t) (F (c.w b a k))) (sym (map.conjugate (c.r a b k)))
      ∙ sym (three (c.r a b k) (c.ring.conjugate (c.r a b k)) (c.w b a k)) ∙ ap F h

  inverse_f_at : (a b k d e g : ℕ) → Is (inverse_f_says c a b k d e g) → Is (inverse_f_says image a b k d e g)
  inverse_f_at a b k d e g h = sym (over_sum c.count _ _ (λ f. map.product (c.f a b k d e f) (c.h a b k d f g))) ∙ ap F h ∙ of_mark (e == g)

  inverse_h_at : (a b k d f g : ℕ) → Is (inverse_h_says c a b k d f g) → Is (inverse_h_says image a b k d f g)
  inverse_h_at a b k d f g h = sym (over_sum c.count _ _ (λ e. map.product (c.h a b k d f e) (c.f a b k d e g))) ∙ ap F h ∙ of_mark (f == g)

  pentagon_at : (p l m r x y z f q : ℕ) → Is (pentagon_says c p l m r x y z f q) → Is (pentagon_says image p l m r x y z f q)
  pentagon_at p l m r x y z f q h =
      sym (map.product (c.f x m r z y f) (c.f p l f z x q)) ∙ ap F h
      ∙ over_sum c.count _ _ (λ e. three (c.f p l m y x e) (c.f p e r z y q) (c.f l m r q e f))

  hexagon_at : (exchange : ℕ → ℕ → ℕ → E) (a b k d e f : ℕ) → Is (hexagon_says c exchange a b k d e f) → Is (hexagon_says image (λ a b k. F (exchange a b k)) a b k d e f)
  hexagon_at exchange a b k d e f h =
      sym (three (exchange a b e) (c.f b a k d e f) (exchange a k f)) ∙ ap F h
      ∙ over_sum c.count _ _ (λ g. three (c.f a b k d e g) (exchange a g d) (c.f b k a d g f))

  twist_at : (a b k : ℕ) → Is (twist_says c a b k) → Is (twist_says image a b k)
  twist_at a b k h = sym (four (c.r a b k) (c.r b a k) (c.twist a) (c.twist b)) ∙ ap F h

  loop_sum_at : (a b : ℕ) → Is (loop_sum_says c a b) → Is (loop_sum_says image a b)
  loop_sum_at a b h =
      sym (map.product (c.loop_value a) (c.loop_value b)) ∙ ap F h ∙ over_sum c.count _ _ (λ k. in_case (c.fuse a b k) (c.loop_value k))

  loop_f_at : (a : ℕ) → Is (loop_f_says c a) → Is (loop_f_says image a)
  loop_f_at a h =
      let dual = dual_of c.count c.fuse a in
      sym (four (c.loop_value a) (c.loop_value a) (c.f a dual a a 0 0) (c.h a dual a a 0 0)) ∙ ap F h ∙ map.one

  -- H and S of the image are the formulas of its symbols
  image_given : AreGiven c → AreGiven image
  image_given are = record {
    h = λ a b m d f e.
        let four_first = four (c.ring.conjugate (c.f a b m d e f)) (c.w b m f) (c.w a f d) (c.v a b e) in
        ap F (are.h a b m d f e) ∙ in_case (f_admissible c.fuse a b m d e f) (h_by c a b m d f e)
        ∙ ap (λ t. if f_admissible c.fuse a b m d e f then t else c.ring.zero)
        (map.product _ (c.v e m d) ∙ ap (λ t. o t (F (c.v e m d))) (four_first ∙ ap (λ t. o (o (o t (F (c.w b m f))) (F (c.w a f d))) (F (c.v a b e))) (map.conjugate (c.f a b m d e f))));
    s = λ a b e.
        ap F (are.s a b e) ∙ in_case (c.fuse a b e) (s_by c a b e)
        ∙ ap (λ t. if c.fuse a b e then t else c.ring.zero)
        (three (c.ring.conjugate (c.r b a e)) (c.w a b e) (c.v b a e) ∙ ap (λ t. o (o t (F (c.w a b e))) (F (c.v b a e))) (map.conjugate (c.r b a e)));
    f_off = λ a b m d e f off. ap F (are.f_off a b m d e f off) ∙ map.zero;
    r_off = λ a b e off. ap F (are.r_off a b e off) ∙ map.zero;
    w_off = λ a b e off. ap F (are.w_off a b e off) ∙ map.zero;
    v_off = λ a b e off. ap F (are.v_off a b e off) ∙ map.zero;
    twist_off = λ a off. ap F (are.twist_off a off) ∙ map.zero;
    loop_off = λ a off. ap F (are.loop_off a off) ∙ map.zero;
  }

  module _ (nonzero : (x : E) → IsTrue (c.ring.member x) → x ≢ c.ring.zero → F x ≢ c.ring.zero) (proper : IsProper c) where
    rigid_at : (a : ℕ) → Is (rigid_says c a) → Is (rigid_says image a)
    rigid_at a = let dual = dual_of c.count c.fuse a in nonzero (c.f a dual a a 0 0) (proper.f_is a dual a a 0 0)

    -- every equation of the laws goes over
    carried : (law : Law) → LawHolds c law → LawHolds image law
    carried UnitF h i long below on = on6 (unit_f_says c) (unit_f_says image) unit_f_at i (h i long below on)
    carried UnitR h i long below on = on3 (unit_says c c.r) (unit_says image image.r) (unit_at c.r) i (h i long below on)
    carried UnitW h i long below on = on3 (unit_says c c.w) (unit_says image image.w) (unit_at c.w) i (h i long below on)
    carried RealW h i long below on = on3 (real_w_says c) (real_w_says image) real_w_at i (h i long below on)
    carried InverseW h i long below on = on3 (inverse_w_says c) (inverse_w_says image) inverse_w_at i (h i long below on)
    carried NormR h i long below on = on3 (norm_r_says c) (norm_r_says image) norm_r_at i (h i long below on)
    carried DeriveH h i long below on = tt
    carried DeriveS h i long below on = tt
    carried InverseF h i long below on = on6 (inverse_f_says c) (inverse_f_says image) inverse_f_at i (h i long below on)
    carried InverseH h i long below on = on6 (inverse_h_says c) (inverse_h_says image) inverse_h_at i (h i long below on)
    carried Rigid h i long below on = on1 (rigid_says c) (rigid_says image) rigid_at i (h i long below on)
    carried Pentagon h i long below on = on9 (pentagon_says c) (pentagon_says image) pentagon_at i (h i long below on)
    carried HexagonOne h i long below on = on6 (hexagon_says c c.r) (hexagon_says image image.r) (hexagon_at c.r) i (h i long below on)
    carried HexagonTwo h i long below on = on6 (hexagon_says c c.s) (hexagon_says image image.s) (hexagon_at c.s) i (h i long below on)
    carried UnitTwist h i long below on = on1 (unit_mark_says c c.twist) (unit_mark_says image image.twist) (unit_mark_at c.twist) i (h i long below on)
    carried Twist h i long below on = on3 (twist_says c) (twist_says image) twist_at i (h i long below on)
    carried UnitLoop h i long below on = on1 (unit_mark_says c c.loop_value) (unit_mark_says image image.loop_value) (unit_mark_at c.loop_value) i (h i long below on)
    carried LoopSum h i long below on = on2 (loop_sum_says c) (loop_sum_says image) loop_sum_at i (h i long below on)
    carried LoopF h i long below on = on1 (loop_f_says c) (loop_f_says image) loop_f_at i (h i long below on)

    image_lawful : IsLawful c → IsLawful image
    image_lawful lawful = record {
      rules = lawful.rules;
      laws = All-weaker (LawHolds c) (LawHolds image) carried (laws_of c.version) lawful.laws;
    }

-- what isn't zero stays so under a map that is undone
stays : {E : Type 0} (c : Symbols E) {K : Held E} (laws : RingLaws c.ring K) (F G : E → E) (map : IsStarMap c.ring F) (undone : IsUndoneBy c.ring F G) (x : E)
    → IsTrue (c.ring.member x) → x ≢ c.ring.zero → F x ≢ c.ring.zero
stays c laws F G map undone x member not e =
    not (sym (undone x member) ∙ ap G (e ∙ sym map.zero) ∙ undone c.ring.zero laws.zero_is)

-- the images of a category
pub has_images : {E : Type 0} (c : Symbols E) {K : Held E} (laws : RingLaws c.ring K) → IsProper c → AreGiven c → HasMarks c → IsLawful c → HasImages c
has_images c laws proper are marks lawful = record {
  category = λ F G map undone. record {
    lawful = image_lawful c F map (stays c laws F G map undone) proper lawful;
    given = given_again (image_of F c) (image_given c F map are);
  };
  undone = λ F G undone j. record c {
    f = λ a b m d e f. undone (c.f a b m d e f) (proper.f_is a b m d e f) j;
    h = λ a b m d f e. undone (c.h a b m d f e) (proper.h_is a b m d f e) j;
    r = λ a b e. undone (c.r a b e) (proper.r_is a b e) j;
    s = λ a b e. undone (c.s a b e) (proper.s_is a b e) j;
    w = λ a b e. undone (c.w a b e) (proper.w_is a b e) j;
    v = λ a b e. undone (c.v a b e) (proper.v_is a b e) j;
    twist = λ a. undone (c.twist a) (marks.twist_is a) j;
    loop_value = λ a. undone (c.loop_value a) (marks.loop_is a) j;
  };
}
