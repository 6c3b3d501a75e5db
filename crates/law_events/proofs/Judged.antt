-- Each law is judged right: no verdict means that its equation is true, and a true equation never fails.
use Rattle.std.proofs.Common.{◌≡◌, ℕ, Bool, true, false, ◌&&◌, ◌||◌, ◌==◌, List, Option, Some, None, refl, sym, ◌∙◌, true≢false}
use Rattle.std.specs.Prelude.{if◌then◌else◌, IsTrue, slice_index}
use Rattle.ring_laws.specs.Ring.{Ring, Held, RingLaws}
use Rattle.ring_laws.specs.Sums.{total}
use Rattle.ring_laws.specs.Stated.{product_at, product3_at, sum_at, conjugate_at, add_product_at, add_product3_at}
use Rattle.fusion_rules.specs.Check.{dual_of}
use Rattle.symbol_table.specs.Symbols.{Symbols, Given, IsOfRing, symbols_of}
use Rattle.symbol_table.specs.Evaluated.{h_stated, s_stated}
use Rattle.symbol_table.specs.Laws.{Equation, Same, Free, at1, at2, at3, at6, at9, identity_at, rigid_says, real_w_says, inverse_w_says, unit_f_says, unit_says, norm_r_says, inverse_f_says, inverse_h_says, pentagon_says, hexagon_says, unit_mark_says, twist_says, loop_sum_says, loop_f_says}
use Rattle.symbol_table.specs.declared.law.Law.{Law}
use Rattle.symbol_table.specs.declared.law.Kind.{Kind}
use Rattle.symbol_table.specs.declared.law.Law.TheVariants.{UnitF, UnitR, UnitW, RealW, InverseW, NormR, DeriveH, DeriveS, InverseF, InverseH, Rigid, Pentagon, HexagonOne, HexagonTwo, UnitTwist, Twist, UnitLoop, LoopSum, LoopF}
use Rattle.law_events.specs.Sides.{judged, evaluated, rigid, real_w, inverse_w, unit_f, unit_vertex, norm_r, norm_r_left, inverse_f, inverse_h, inverse_f_left, inverse_f_step, inverse_h_left, inverse_h_step, pentagon, pentagon_left, pentagon_right, pentagon_step, hexagon, hexagon_left, hexagon_right, hexagon_step, unit_mark, product4_at, twist, twist_left, loop_sum, loop_sum_right, loop_sum_step, loop_f, loop_f_left}
use Rattle.law_events.proofs.Right.{IsRight, JudgesRight, same_right, where_right, free_right, not_zero_right}
use Rattle.law_events.proofs.Values.{Evaluates, given_is, then_is, product_is, sum_is, conjugate_is, product3_is, add_product_is, add_product3_is, step_is, steps_are}
use Rattle.law_events.proofs.Zeros.{one_of_three, f_zero_second, f_zero_third, f_zero_fourth, left_gone, right_gone, first_gone, second_gone, third_gone}

-- a factor that is 0 where two of its vertices don't fuse
off_behind : {E : Type 0} (x y z u : Bool) (v zero : E) → (z && u) ≡ false → (if x && (y && (z && u)) then v else zero) ≡ zero
off_behind true true z u v zero off = rw off refl
off_behind true false z u v zero off = refl
off_behind false y z u v zero off = refl

off_before : {E : Type 0} (x y rest : Bool) (v zero : E) → (x && y) ≡ false → (if x && (y && rest) then v else zero) ≡ zero
off_before true true rest v zero off = absurd (true≢false off)
off_before true false rest v zero off = refl
off_before false y rest v zero off = refl

module _ {E : Type 0} (ring : Ring E) (held : Held E) (laws : RingLaws ring held) (g : Given E) where
  abbrev c : Symbols E
  c = symbols_of ring held g

  -- each F is of the ring
  abbrev Are : Type 0
  Are = IsOfRing c

  abbrev times : E → E → E
  times = ring.product

  -- a side that is a value that is there, or a product of two
  unit_f_right : (a b k d e f : ℕ) → IsRight ring Are (unit_f c a b k d e f) (unit_f_says c a b k d e f)
  unit_f_right a b k d e f =
      where_right ring held laws Are (a == 0 || (b == 0 || k == 0)) (judged held (Some (c.f a b k d e f)) (Some ring.one)) (Same (c.f a b k d e f) ring.one)
      (same_right ring held laws Are (Some (c.f a b k d e f)) (Some ring.one) (c.f a b k d e f) ring.one (given_is (c.f a b k d e f)) (given_is ring.one))

  unit_right : (symbol : ℕ → ℕ → ℕ → E) (a b k : ℕ) → IsRight ring Are (unit_vertex c symbol a b k) (unit_says c symbol a b k)
  unit_right symbol a b k =
      where_right ring held laws Are (a == 0 || b == 0) (judged held (Some (symbol a b k)) (Some ring.one)) (Same (symbol a b k) ring.one)
      (same_right ring held laws Are (Some (symbol a b k)) (Some ring.one) (symbol a b k) ring.one (given_is (symbol a b k)) (given_is ring.one))

  real_right : (x : E) → IsRight ring Are (judged held (conjugate_at ring x) (Some x)) (Same (ring.conjugate x) x)
  real_right x = same_right ring held laws Are (conjugate_at ring x) (Some x) (ring.conjugate x) x (conjugate_is ring x) (given_is x)

  inverse_right : (x y : E) → IsRight ring Are (judged held (product_at ring x y) (Some ring.one)) (Same (times x y) ring.one)
  inverse_right x y = same_right ring held laws Are (product_at ring x y) (Some ring.one) (times x y) ring.one (product_is ring x y) (given_is ring.one)

  norm_is : (a b k : ℕ) → Evaluates (norm_r_left c a b k) (times (times (c.r a b k) (ring.conjugate (c.r a b k))) (c.w b a k))
  norm_is a b k =
      then_is (conjugate_at ring (c.r a b k)) (λ turned. product3_at ring (c.r a b k) turned (c.w b a k)) (ring.conjugate (c.r a b k))
      (times (times (c.r a b k) (ring.conjugate (c.r a b k))) (c.w b a k)) (conjugate_is ring (c.r a b k))
      (product3_is ring (c.r a b k) (ring.conjugate (c.r a b k)) (c.w b a k))

  norm_r_right : (a b k : ℕ) → IsRight ring Are (norm_r c a b k) (norm_r_says c a b k)
  norm_r_right a b k =
      same_right ring held laws Are (norm_r_left c a b k) (Some (c.w a b k)) (times (times (c.r a b k) (ring.conjugate (c.r a b k))) (c.w b a k)) (c.w a b k)
      (norm_is a b k) (given_is (c.w a b k))

  -- sum over f of F H: the terms off the index's vertices are 0 since F is
  inverse_f_sum : (a b k d e q : ℕ) → Evaluates (inverse_f_left c a b k d e q) (total ring g.count (λ f. times (c.f a b k d e f) (c.h a b k d f q)))
  inverse_f_sum a b k d e q =
      steps_are ring held laws (inverse_f_step c a b k d e q) (λ f. times (c.f a b k d e f) (c.h a b k d f q))
      (λ f s is.
      step_is ring held laws (g.fuse b k f && g.fuse a f d) (add_product_at ring s (c.f a b k d e f) (c.h a b k d f q)) s (times (c.f a b k d e f) (c.h a b k d f q)) is
      (add_product_is ring s (c.f a b k d e f) (c.h a b k d f q))
      (λ off. left_gone ring held laws (c.f a b k d e f) (c.h a b k d f q) (off_behind (g.fuse a b e) (g.fuse e k d) (g.fuse b k f) (g.fuse a f d) _ ring.zero off)))
      g.count

  inverse_f_right : (a b k d e q : ℕ) → IsRight ring Are (inverse_f c a b k d e q) (inverse_f_says c a b k d e q)
  inverse_f_right a b k d e q =
      same_right ring held laws Are (inverse_f_left c a b k d e q) (Some (identity_at c e q)) (total ring g.count (λ f. times (c.f a b k d e f) (c.h a b k d f q))) (identity_at c e q)
      (inverse_f_sum a b k d e q) (given_is (identity_at c e q))

  -- the same for the sum over e of H F
  inverse_h_sum : (a b k d f q : ℕ) → Evaluates (inverse_h_left c a b k d f q) (total ring g.count (λ e. times (c.h a b k d f e) (c.f a b k d e q)))
  inverse_h_sum a b k d f q =
      steps_are ring held laws (inverse_h_step c a b k d f q) (λ e. times (c.h a b k d f e) (c.f a b k d e q))
      (λ e s is.
      step_is ring held laws (g.fuse a b e && g.fuse e k d) (add_product_at ring s (c.h a b k d f e) (c.f a b k d e q)) s (times (c.h a b k d f e) (c.f a b k d e q)) is
      (add_product_is ring s (c.h a b k d f e) (c.f a b k d e q))
      (λ off. right_gone ring held laws (c.h a b k d f e) (c.f a b k d e q) (off_before (g.fuse a b e) (g.fuse e k d) (g.fuse b k q && g.fuse a q d) _ ring.zero off)))
      g.count

  inverse_h_right : (a b k d f q : ℕ) → IsRight ring Are (inverse_h c a b k d f q) (inverse_h_says c a b k d f q)
  inverse_h_right a b k d f q =
      same_right ring held laws Are (inverse_h_left c a b k d f q) (Some (identity_at c f q)) (total ring g.count (λ e. times (c.h a b k d f e) (c.f a b k d e q))) (identity_at c f q)
      (inverse_h_sum a b k d f q) (given_is (identity_at c f q))

  -- a product that is taken, or is zero
  taken : (goes : Bool) (x y : E) → (goes ≡ false → x ≡ ring.zero) → Evaluates (if goes then product_at ring x y else Some ring.zero) (times x y)
  taken true x y off v e = product_is ring x y v e
  taken false x y off v e = given_is ring.zero v e ∙ sym (left_gone ring held laws x y (off refl))

  module _ (p l m r x y z f q : ℕ) where
    abbrev pentagon_term : ℕ → E
    pentagon_term e = times (times (c.f p l m y x e) (c.f p e r z y q)) (c.f l m r q e f)

    -- a term is zero where a symbol of it isn't admissible
    pentagon_off : (e : ℕ) → (g.fuse l m e && (g.fuse p e y && g.fuse e r q)) ≡ false → pentagon_term e ≡ ring.zero
    pentagon_off e =
        let first = c.f p l m y x e in
        let second = c.f p e r z y q in
        let third = c.f l m r q e f in
        one_of_three (g.fuse l m e) (g.fuse p e y) (g.fuse e r q)
        (λ off. first_gone ring held laws first second third (f_zero_third ring g p l m y x e off))
        (λ off. first_gone ring held laws first second third (f_zero_fourth ring g p l m y x e off))
        (λ off. second_gone ring held laws first second third (f_zero_third ring g p e r z y q off))

    pentagon_adds : (e : ℕ) (s : E) → IsTrue (ring.member s) → Evaluates (pentagon_step c p l m r x y z f q e s) (ring.sum s (pentagon_term e))
    pentagon_adds e s is =
        step_is ring held laws (g.fuse l m e && (g.fuse p e y && g.fuse e r q))
        (add_product3_at ring s (c.f p l m y x e) (c.f p e r z y q) (c.f l m r q e f)) s (pentagon_term e) is
        (add_product3_is ring s (c.f p l m y x e) (c.f p e r z y q) (c.f l m r q e f)) (pentagon_off e)

    pentagon_right_is : Evaluates (pentagon_right c p l m r x y z f q) (total ring g.count pentagon_term)
    pentagon_right_is = steps_are ring held laws (pentagon_step c p l m r x y z f q) pentagon_term pentagon_adds g.count

    pentagon_is_right : IsRight ring Are (pentagon c p l m r x y z f q) (pentagon_says c p l m r x y z f q)
    pentagon_is_right =
        same_right ring held laws Are (pentagon_left c p l m r x y z f q) (pentagon_right c p l m r x y z f q) (times (c.f x m r z y f) (c.f p l f z x q)) (total ring g.count pentagon_term)
        (taken (g.fuse x f z) (c.f x m r z y f) (c.f p l f z x q) (f_zero_fourth ring g x m r z y f)) pentagon_right_is

  module _ (exchange : ℕ → ℕ → ℕ → E) (a b k d e f : ℕ) where
    abbrev hexagon_term : ℕ → E
    hexagon_term t = times (times (c.f a b k d e t) (exchange a t d)) (c.f b k a d t f)

    -- a term is zero where a symbol of it isn't admissible; for the last two vertices F alone says so
    hexagon_off : (t : ℕ) → (g.fuse b k t && (g.fuse a t d && g.fuse t a d)) ≡ false → hexagon_term t ≡ ring.zero
    hexagon_off t =
        let first = c.f a b k d e t in
        let second = exchange a t d in
        let third = c.f b k a d t f in
        one_of_three (g.fuse b k t) (g.fuse a t d) (g.fuse t a d)
        (λ off. first_gone ring held laws first second third (f_zero_third ring g a b k d e t off))
        (λ off. first_gone ring held laws first second third (f_zero_fourth ring g a b k d e t off))
        (λ off. third_gone ring held laws first second third (f_zero_second ring g b k a d t f off))

    hexagon_adds : (t : ℕ) (s : E) → IsTrue (ring.member s) → Evaluates (hexagon_step c exchange a b k d e f t s) (ring.sum s (hexagon_term t))
    hexagon_adds t s is =
        step_is ring held laws (g.fuse b k t && (g.fuse a t d && g.fuse t a d))
        (add_product3_at ring s (c.f a b k d e t) (exchange a t d) (c.f b k a d t f)) s (hexagon_term t) is
        (add_product3_is ring s (c.f a b k d e t) (exchange a t d) (c.f b k a d t f)) (hexagon_off t)

    hexagon_right_is : Evaluates (hexagon_right c exchange a b k d e f) (total ring g.count hexagon_term)
    hexagon_right_is = steps_are ring held laws (hexagon_step c exchange a b k d e f) hexagon_term hexagon_adds g.count

    hexagon_is_right : IsRight ring Are (hexagon c exchange a b k d e f) (hexagon_says c exchange a b k d e f)
    hexagon_is_right =
        same_right ring held laws Are (hexagon_left c exchange a b k d e f) (hexagon_right c exchange a b k d e f) (times (times (exchange a b e) (c.f b a k d e f)) (exchange a k f))
        (total ring g.count hexagon_term) (product3_is ring (exchange a b e) (c.f b a k d e f) (exchange a k f)) hexagon_right_is

  unit_mark_right : (mark : ℕ → E) (a : ℕ) → IsRight ring Are (unit_mark c mark a) (unit_mark_says c mark a)
  unit_mark_right mark a =
      where_right ring held laws Are (a == 0) (judged held (Some (mark a)) (Some ring.one)) (Same (mark a) ring.one)
      (same_right ring held laws Are (Some (mark a)) (Some ring.one) (mark a) ring.one (given_is (mark a)) (given_is ring.one))

  product4_is : (x y z u : E) → Evaluates (product4_at ring x y z u) (times (times (times x y) z) u)
  product4_is x y z u =
      then_is (product3_at ring x y z) (λ three. product_at ring three u) (times (times x y) z) (times (times (times x y) z) u) (product3_is ring x y z)
      (product_is ring (times (times x y) z) u)

  twist_right : (a b k : ℕ) → IsRight ring Are (twist c a b k) (twist_says c a b k)
  twist_right a b k =
      same_right ring held laws Are (twist_left c a b k) (Some (c.twist k)) (times (times (times (c.r a b k) (c.r b a k)) (c.twist a)) (c.twist b)) (c.twist k)
      (product4_is (c.r a b k) (c.r b a k) (c.twist a) (c.twist b)) (given_is (c.twist k))

  -- a term of a sum that is added, or isn't there
  added : (goes : Bool) (s x : E) → IsTrue (ring.member s) → Evaluates (if goes then sum_at ring s x else Some s) (ring.sum s (if goes then x else ring.zero))
  added true s x is = sum_is ring s x
  added false s x is = λ v e. given_is s v e ∙ sym (laws.sum-zero s is)

  loop_sum_is : (a b : ℕ) → Evaluates (loop_sum_right c a b) (total ring g.count (λ k. if g.fuse a b k then c.loop_value k else ring.zero))
  loop_sum_is a b =
      steps_are ring held laws (loop_sum_step c a b) (λ k. if g.fuse a b k then c.loop_value k else ring.zero) (λ k s is. added (g.fuse a b k) s (c.loop_value k) is) g.count

  loop_sum_is_right : (a b : ℕ) → IsRight ring Are (loop_sum c a b) (loop_sum_says c a b)
  loop_sum_is_right a b =
      same_right ring held laws Are (product_at ring (c.loop_value a) (c.loop_value b)) (loop_sum_right c a b) (times (c.loop_value a) (c.loop_value b))
      (total ring g.count (λ k. if g.fuse a b k then c.loop_value k else ring.zero)) (product_is ring (c.loop_value a) (c.loop_value b)) (loop_sum_is a b)

  loop_f_right : (a : ℕ) → IsRight ring Are (loop_f c a) (loop_f_says c a)
  loop_f_right a =
      let dual = dual_of c.count c.fuse a in
      same_right ring held laws Are (loop_f_left c a) (Some ring.one) (times (times (times (c.loop_value a) (c.loop_value a)) (c.f a dual a a 0 0)) (c.h a dual a a 0 0)) ring.one
      (product4_is (c.loop_value a) (c.loop_value a) (c.f a dual a a 0 0) (c.h a dual a a 0 0)) (given_is ring.one)

  -- what is right at all labels is right at those of an index
  on1 : (v : ℕ → Option Kind) (e : ℕ → Equation E) → ((a : ℕ) → IsRight ring Are (v a) (e a)) → (i : List ℕ) → IsRight ring Are (at1 v i) (at1 e i)
  on1 v e right i = right (slice_index i 0)

  on2 : (v : ℕ → ℕ → Option Kind) (e : ℕ → ℕ → Equation E) → ((a b : ℕ) → IsRight ring Are (v a b) (e a b)) → (i : List ℕ) → IsRight ring Are (at2 v i) (at2 e i)
  on2 v e right i = right (slice_index i 0) (slice_index i 1)

  on3 : (v : ℕ → ℕ → ℕ → Option Kind) (e : ℕ → ℕ → ℕ → Equation E) → ((a b k : ℕ) → IsRight ring Are (v a b k) (e a b k)) → (i : List ℕ) → IsRight ring Are (at3 v i) (at3 e i)
  on3 v e right i = right (slice_index i 0) (slice_index i 1) (slice_index i 2)

  on6 : (v : ℕ → ℕ → ℕ → ℕ → ℕ → ℕ → Option Kind) (e : ℕ → ℕ → ℕ → ℕ → ℕ → ℕ → Equation E) → ((a b k d x y : ℕ) → IsRight ring Are (v a b k d x y) (e a b k d x y)) → (i : List ℕ) → IsRight ring Are (at6 v i) (at6 e i)
  on6 v e right i = right (slice_index i 0) (slice_index i 1) (slice_index i 2) (slice_index i 3) (slice_index i 4) (slice_index i 5)

  on9 : (v : ℕ → ℕ → ℕ → ℕ → ℕ → ℕ → ℕ → ℕ → ℕ → Option Kind) (e : ℕ → ℕ → ℕ → ℕ → ℕ → ℕ → ℕ → ℕ → ℕ → Equation E)
      → ((p l m r x y z f q : ℕ) → IsRight ring Are (v p l m r x y z f q) (e p l m r x y z f q)) → (i : List ℕ) → IsRight ring Are (at9 v i) (at9 e i)
  on9 v e right i = right (slice_index i 0) (slice_index i 1) (slice_index i 2) (slice_index i 3) (slice_index i 4) (slice_index i 5) (slice_index i 6) (slice_index i 7) (slice_index i 8)

  -- every law is judged right
  pub judges_right : (law : Law) → JudgesRight c law
  judges_right UnitF = on6 (unit_f c) (unit_f_says c) unit_f_right
  judges_right UnitR = on3 (unit_vertex c c.r) (unit_says c c.r) (unit_right c.r)
  judges_right UnitW = on3 (unit_vertex c c.w) (unit_says c c.w) (unit_right c.w)
  judges_right RealW = on3 (real_w c) (real_w_says c) (λ a b k. real_right (c.w a b k))
  judges_right InverseW = on3 (inverse_w c) (inverse_w_says c) (λ a b k. inverse_right (c.w a b k) (c.v a b k))
  judges_right NormR = on3 (norm_r c) (norm_r_says c) norm_r_right
  judges_right DeriveH = on6 (λ a b k d f e. evaluated (h_stated c a b k d f e)) (λ _ _ _ _ _ _. Free) (λ a b k d f e. free_right ring held laws Are (h_stated c a b k d f e))
  judges_right DeriveS = on3 (λ a b k. evaluated (s_stated c a b k)) (λ _ _ _. Free) (λ a b k. free_right ring held laws Are (s_stated c a b k))
  judges_right InverseF = on6 (inverse_f c) (inverse_f_says c) inverse_f_right
  judges_right InverseH = on6 (inverse_h c) (inverse_h_says c) inverse_h_right
  judges_right Rigid = on1 (rigid c) (rigid_says c) (λ a. not_zero_right ring held laws Are (c.f a (dual_of c.count c.fuse a) a a 0 0) (λ are. are a (dual_of c.count c.fuse a) a a 0 0))
  judges_right Pentagon = on9 (pentagon c) (pentagon_says c) pentagon_is_right
  judges_right HexagonOne = on6 (hexagon c c.r) (hexagon_says c c.r) (hexagon_is_right c.r)
  judges_right HexagonTwo = on6 (hexagon c c.s) (hexagon_says c c.s) (hexagon_is_right c.s)
  judges_right UnitTwist = on1 (unit_mark c c.twist) (unit_mark_says c c.twist) (unit_mark_right c.twist)
  judges_right Twist = on3 (twist c) (twist_says c) twist_right
  judges_right UnitLoop = on1 (unit_mark c c.loop_value) (unit_mark_says c c.loop_value) (unit_mark_right c.loop_value)
  judges_right LoopSum = on2 (loop_sum c) (loop_sum_says c) loop_sum_is_right
  judges_right LoopF = on1 (loop_f c) (loop_f_says c) loop_f_right
