-- The product of two categories is one.
use Rattle.std.proofs.Common.{◌≡◌, ℕ, ◌*◌, ◌≤◌, Bool, true, false, refl, ap, ap₂, sym, ◌∙◌, arith, inl, inr}
use Rattle.std.specs.Prelude.{◌/◌, ◌%◌, nat_lt, if◌then◌else◌}
use Rattle.std.proofs.Math.Nat.{le-div_iff_mul-le}
use Rattle.std.proofs.lemmas.Bool.Decides.{nat_tests}
use Rattle.ring_laws.specs.Ring.{Held, RingLaws}
use Rattle.ring_laws.proofs.SumLemmas.{if_no, if_yes, true_or_false, zero-product}
use Rattle.symbol_table.specs.Symbols.{Given, Symbols, f_admissible, f_of, h_of, mark_of, s_of, vertex_of}
use Rattle.symbol_table.proofs.RuleLemmas.{both}
use Rattle.image_laws.specs.Category.{AreOfCategory, given_of}
use Rattle.image_laws.specs.Products.{product_of}
use Rattle.image_laws.proofs.Factors.{IsFactor, over}
use Rattle.image_laws.proofs.PairLemmas.{both_off, cross_three, cross_five}
use Rattle.image_laws.proofs.ProductLaws.{admissible, parts, is_lawful}

module _ {E : Type 0} (c other : Symbols E) {H : Held E} (laws : RingLaws c.ring H) (one : IsFactor c) (two : IsFactor (over c other)) where
  abbrev p : Symbols E
  p = product_of c other

  abbrev g : Given E
  g = given_of p

  abbrev K : ℕ
  K = other.count

  abbrev x : E → E → E
  x = c.ring.product

  abbrev zero : E
  zero = c.ring.zero

  -- what is zero where not admissible
  kept : (so : Bool) (value : E) → (so ≡ false → value ≡ zero) → (if so then value else zero) ≡ value
  kept true value off = refl
  kept false value off = sym (off refl)

  -- a product is zero where one of both isn't admissible
  six_off : (u v : E) (a b m k e f : ℕ)
      → (f_admissible c.fuse (a / K) (b / K) (m / K) (k / K) (e / K) (f / K) ≡ false → u ≡ zero)
      → (f_admissible other.fuse (a % K) (b % K) (m % K) (k % K) (e % K) (f % K) ≡ false → v ≡ zero)
      → f_admissible p.fuse a b m k e f ≡ false → x u v ≡ zero
  six_off u v a b m k e f first second off = both_off laws _ _ u v first second (sym (admissible c other laws one two a b m k e f) ∙ off)

  f_off : (a b m k e f : ℕ) → f_admissible p.fuse a b m k e f ≡ false → p.f a b m k e f ≡ zero
  f_off a b m k e f =
      six_off _ _ a b m k e f (one.proper.f_off (a / K) (b / K) (m / K) (k / K) (e / K) (f / K)) (two.proper.f_off (a % K) (b % K) (m % K) (k % K) (e % K) (f % K))

  h_off : (a b m k f e : ℕ) → f_admissible p.fuse a b m k e f ≡ false → p.h a b m k f e ≡ zero
  h_off a b m k f e =
      six_off _ _ a b m k e f (one.proper.h_off (a / K) (b / K) (m / K) (k / K) (f / K) (e / K)) (two.proper.h_off (a % K) (b % K) (m % K) (k % K) (f % K) (e % K))

  vertex_off : (s t : ℕ → ℕ → ℕ → E)
      → ((a b e : ℕ) → c.fuse a b e ≡ false → s a b e ≡ zero)
      → ((a b e : ℕ) → other.fuse a b e ≡ false → t a b e ≡ zero)
      → (a b e : ℕ) → p.fuse a b e ≡ false → x (s (a / K) (b / K) (e / K)) (t (a % K) (b % K) (e % K)) ≡ zero
  vertex_off s t first second a b e off = both_off laws _ _ _ _ (first (a / K) (b / K) (e / K)) (second (a % K) (b % K) (e % K)) off

  -- what is no label is no pair: its first label is none
  mark_off : (s t : ℕ → E) → ((i : ℕ) → nat_lt i c.count ≡ false → s i ≡ zero) → (a : ℕ) → nat_lt a (c.count * K) ≡ false → x (s (a / K)) (t (a % K)) ≡ zero
  mark_off s t first a off = ap (λ y. x y (t (a % K))) (first (a / K) (is_above (a / K) c.count none)) ∙ zero-product laws _
    where
      is_above : (m n : ℕ) → n ≤ m → nat_lt m n ≡ false
      is_above m n h = grind (arith, nat_tests)

      no_pair : (n : ℕ) → nat_lt a n ≡ false → n ≤ a
      no_pair n h = grind (arith, nat_tests)

      none : c.count ≤ a / K
      none = (le-div_iff_mul-le two.unit.some).1 (no_pair (c.count * K) off)

  f_given : (a b m k e f : ℕ) → f_of c.ring g a b m k e f ≡ p.f a b m k e f
  f_given a b m k e f = kept (f_admissible p.fuse a b m k e f) _ (f_off a b m k e f)

  r_given : (a b e : ℕ) → vertex_of c.ring g g.set_r a b e ≡ p.r a b e
  r_given a b e = kept (p.fuse a b e) _ (vertex_off c.r other.r one.proper.r_off two.proper.r_off a b e)

  w_given : (a b e : ℕ) → vertex_of c.ring g g.set_w a b e ≡ p.w a b e
  w_given a b e = kept (p.fuse a b e) _ (vertex_off c.w other.w one.proper.w_off two.proper.w_off a b e)

  v_given : (a b e : ℕ) → vertex_of c.ring g g.set_v a b e ≡ p.v a b e
  v_given a b e = kept (p.fuse a b e) _ (vertex_off c.v other.v one.proper.v_off two.proper.v_off a b e)

  twist_given : (a : ℕ) → mark_of c.ring g g.set_twist a ≡ p.twist a
  twist_given a = kept (nat_lt a p.count) _ (mark_off c.twist other.twist one.twist_off a)

  loop_given : (a : ℕ) → mark_of c.ring g g.set_loop a ≡ p.loop_value a
  loop_given a = kept (nat_lt a p.count) _ (mark_off c.loop_value other.loop_value one.loop_off a)

  -- H and S are the products of both formulas
  h_formula : (a b m k f e : ℕ) → f_admissible p.fuse a b m k e f ≡ true
      → x (x (x (x (c.ring.conjugate (p.f a b m k e f)) (p.w b m f)) (p.w a f k)) (p.v a b e)) (p.v e m k) ≡ p.h a b m k f e
  h_formula a b m k f e on =
      let all = parts c other laws one two a b m k e f on in
      ap (λ y. x (x (x (x y (p.w b m f)) (p.w a f k)) (p.v a b e)) (p.v e m k)) (laws.conjugate-product _ _)
      ∙ (cross_five laws _ _ _ _ _ _ _ _ _ _
      ∙ sym (ap₂ x (one.h_is (a / K) (b / K) (m / K) (k / K) (f / K) (e / K) all.0) (two.h_is (a % K) (b % K) (m % K) (k % K) (f % K) (e % K) all.1)))

  s_formula : (a b e : ℕ) → p.fuse a b e ≡ true → x (x (c.ring.conjugate (p.r b a e)) (p.w a b e)) (p.v b a e) ≡ p.s a b e
  s_formula a b e on =
      let all = both (c.fuse (a / K) (b / K) (e / K)) (other.fuse (a % K) (b % K) (e % K)) on in
      ap (λ y. x (x y (p.w a b e)) (p.v b a e)) (laws.conjugate-product _ _)
      ∙ (cross_three laws _ _ _ _ _ _ ∙ sym (ap₂ x (one.s_is (a / K) (b / K) (e / K) all.0) (two.s_is (a % K) (b % K) (e % K) all.1)))

  h_given : (a b m k f e : ℕ) → h_of c.ring g a b m k f e ≡ p.h a b m k f e
  h_given a b m k f e =
      (λ i. if f_admissible p.fuse a b m k e f
      then x (x (x (x (c.ring.conjugate (f_given a b m k e f i)) (w_given b m f i)) (w_given a f k i)) (v_given a b e i)) (v_given e m k i)
      else zero)
      ∙ (elim (true_or_false (f_admissible p.fuse a b m k e f)) [
        | inl on ↦ if_yes (f_admissible p.fuse a b m k e f) _ zero on ∙ h_formula a b m k f e on
        | inr off ↦ if_no (f_admissible p.fuse a b m k e f) _ zero off ∙ sym (h_off a b m k f e off)
      ])

  s_given : (a b e : ℕ) → s_of c.ring g a b e ≡ p.s a b e
  s_given a b e =
      (λ i. if p.fuse a b e then x (x (c.ring.conjugate (r_given b a e i)) (w_given a b e i)) (v_given b a e i) else zero)
      ∙ (elim (true_or_false (p.fuse a b e)) [
        | inl on ↦ if_yes (p.fuse a b e) _ zero on ∙ s_formula a b e on
        | inr off ↦ if_no (p.fuse a b e) _ zero off ∙ sym (vertex_off c.s other.s one.proper.s_off two.proper.s_off a b e off)
      ])

  -- the product is of a category
  pub are_of_category : AreOfCategory p
  are_of_category = record {
    lawful = is_lawful c other laws one two;
    given = λ i. record {
      version = p.version;
      ring = p.ring;
      held = p.held;
      count = p.count;
      fuse = p.fuse;
      f = λ a b m k e f. f_given a b m k e f i;
      h = λ a b m k f e. h_given a b m k f e i;
      r = λ a b e. r_given a b e i;
      s = λ a b e. s_given a b e i;
      w = λ a b e. w_given a b e i;
      v = λ a b e. v_given a b e i;
      twist = λ a. twist_given a i;
      loop_value = λ a. loop_given a i;
    };
  }
