-- The stated evaluation of each law, and its verdict at an index.
--
-- Products are formed from the left, sums in label order from zero, over the labels at which all symbols are
-- admissible; a conjugate is formed where it stands; the left side comes before the right one.
use Rattle.std.specs.Prelude.{ℕ, ◌&&◌, ◌||◌, ◌==◌, List, [], ◌∷◌, Option, Some, None, if◌then◌else◌}
use Rattle.std.specs.Option.{option_or}
use Rattle.ring_laws.specs.Ring.{Ring, Held}
use Rattle.ring_laws.specs.Stated.{◌>>=◌, product_at, product3_at, sum_at, conjugate_at, add_product_at, add_product3_at, steps}
use Rattle.fusion_rules.specs.Check.{dual_of}
use Rattle.symbol_table.specs.Symbols.{Symbols}
use Rattle.symbol_table.specs.Evaluated.{h_stated, s_stated}
use Rattle.symbol_table.specs.Laws.{at1, at2, at3, at6, at9, identity_at, laws_of}
use Rattle.symbol_table.specs.declared.law.Law.{Law}
use Rattle.symbol_table.specs.declared.law.Law.TheVariants.{UnitF, UnitR, UnitW, RealW, InverseW, NormR, DeriveH, DeriveS, InverseF, InverseH, Rigid, Pentagon, HexagonOne, HexagonTwo, UnitTwist, Twist, UnitLoop, LoopSum, LoopF}
use Rattle.symbol_table.specs.declared.law.Kind.{Kind}
use Rattle.symbol_table.specs.declared.law.Kind.TheVariants.{Fails, Overflow}
use Rattle.symbol_table.specs.declared.law.Event.{Event}
use Rattle.law_events.specs.First.{first_event}

-- Overflow where a side stops, Fails where both have values that differ
abbrev pub judged : {E : Type 0} → Held E → Option E → Option E → Option Kind
judged held None right = Some Overflow
judged held (Some x) None = Some Overflow
judged held (Some x) (Some y) = if held.equal x y then None else Some Fails

-- no equation: the value alone is evaluated
abbrev pub evaluated : {E : Type 0} → Option E → Option Kind
evaluated None = Some Overflow
evaluated (Some x) = None

-- the product of four, from the left
abbrev pub product4_at : {E : Type 0} → Ring E → E → E → E → E → Option E
product4_at ring x y z u = product3_at ring x y z >>= λ three. product_at ring three u

module _ {E : Type 0} (c : Symbols E) where
  -- F at an index with a unit is 1
  abbrev pub unit_f : ℕ → ℕ → ℕ → ℕ → ℕ → ℕ → Option Kind
  unit_f a b k d e f = if a == 0 || (b == 0 || k == 0) then judged c.held (Some (c.f a b k d e f)) (Some c.ring.one) else None

  -- a symbol of a vertex with a unit is 1
  abbrev pub unit_vertex : (ℕ → ℕ → ℕ → E) → ℕ → ℕ → ℕ → Option Kind
  unit_vertex symbol a b k = if a == 0 || b == 0 then judged c.held (Some (symbol a b k)) (Some c.ring.one) else None

  -- conj(w(a,b,c)) = w(a,b,c)
  abbrev pub real_w : ℕ → ℕ → ℕ → Option Kind
  real_w a b k = judged c.held (conjugate_at c.ring (c.w a b k)) (Some (c.w a b k))

  -- w(a,b,c) v(a,b,c) = 1
  abbrev pub inverse_w : ℕ → ℕ → ℕ → Option Kind
  inverse_w a b k = judged c.held (product_at c.ring (c.w a b k) (c.v a b k)) (Some c.ring.one)

  -- R(a,b,c) conj(R(a,b,c)) w(b,a,c)
  abbrev pub norm_r_left : ℕ → ℕ → ℕ → Option E
  norm_r_left a b k = do
    turned ← conjugate_at c.ring (c.r a b k)
    product3_at c.ring (c.r a b k) turned (c.w b a k)

  abbrev pub norm_r : ℕ → ℕ → ℕ → Option Kind
  norm_r a b k = judged c.held (norm_r_left a b k) (Some (c.w a b k))

  -- the term F(a,b,c,d;e,f) H(a,b,c,d;f,g) of a sum over f
  abbrev pub inverse_f_step : ℕ → ℕ → ℕ → ℕ → ℕ → ℕ → ℕ → E → Option E
  inverse_f_step a b k d e g f sum =
      if c.fuse b k f && c.fuse a f d then add_product_at c.ring sum (c.f a b k d e f) (c.h a b k d f g) else Some sum

  abbrev pub inverse_f_left : ℕ → ℕ → ℕ → ℕ → ℕ → ℕ → Option E
  inverse_f_left a b k d e g = steps (inverse_f_step a b k d e g) 0 c.count c.ring.zero

  abbrev pub inverse_f : ℕ → ℕ → ℕ → ℕ → ℕ → ℕ → Option Kind
  inverse_f a b k d e g = judged c.held (inverse_f_left a b k d e g) (Some (identity_at c e g))

  -- the term H(a,b,c,d;f,e) F(a,b,c,d;e,g) of a sum over e
  abbrev pub inverse_h_step : ℕ → ℕ → ℕ → ℕ → ℕ → ℕ → ℕ → E → Option E
  inverse_h_step a b k d f g e sum =
      if c.fuse a b e && c.fuse e k d then add_product_at c.ring sum (c.h a b k d f e) (c.f a b k d e g) else Some sum

  abbrev pub inverse_h_left : ℕ → ℕ → ℕ → ℕ → ℕ → ℕ → Option E
  inverse_h_left a b k d f g = steps (inverse_h_step a b k d f g) 0 c.count c.ring.zero

  abbrev pub inverse_h : ℕ → ℕ → ℕ → ℕ → ℕ → ℕ → Option Kind
  inverse_h a b k d f g = judged c.held (inverse_h_left a b k d f g) (Some (identity_at c f g))

  -- F(a,a*,a,a;1,1) isn't 0
  abbrev pub rigid : ℕ → Option Kind
  rigid a = if c.held.is_zero (c.f a (dual_of c.count c.fuse a) a a 0 0) then Some Fails else None

  -- F(x,m,r,z;y,f) F(p,l,f,z;x,q), and 0 where N(x,f,z) doesn't hold
  abbrev pub pentagon_left : ℕ → ℕ → ℕ → ℕ → ℕ → ℕ → ℕ → ℕ → ℕ → Option E
  pentagon_left p l m r x y z f q = if c.fuse x f z then product_at c.ring (c.f x m r z y f) (c.f p l f z x q) else Some c.ring.zero

  -- the term F(p,l,m,y;x,e) F(p,e,r,z;y,q) F(l,m,r,q;e,f) of a sum over e
  abbrev pub pentagon_step : ℕ → ℕ → ℕ → ℕ → ℕ → ℕ → ℕ → ℕ → ℕ → ℕ → E → Option E
  pentagon_step p l m r x y z f q e sum =
      if c.fuse l m e && (c.fuse p e y && c.fuse e r q)
      then add_product3_at c.ring sum (c.f p l m y x e) (c.f p e r z y q) (c.f l m r q e f)
      else Some sum

  abbrev pub pentagon_right : ℕ → ℕ → ℕ → ℕ → ℕ → ℕ → ℕ → ℕ → ℕ → Option E
  pentagon_right p l m r x y z f q = steps (pentagon_step p l m r x y z f q) 0 c.count c.ring.zero

  abbrev pub pentagon : ℕ → ℕ → ℕ → ℕ → ℕ → ℕ → ℕ → ℕ → ℕ → Option Kind
  pentagon p l m r x y z f q = judged c.held (pentagon_left p l m r x y z f q) (pentagon_right p l m r x y z f q)

  -- X(a,b,e) F(b,a,c,d;e,f) X(a,c,f), with X for R or for S
  abbrev pub hexagon_left : (ℕ → ℕ → ℕ → E) → ℕ → ℕ → ℕ → ℕ → ℕ → ℕ → Option E
  hexagon_left exchange a b k d e f = product3_at c.ring (exchange a b e) (c.f b a k d e f) (exchange a k f)

  -- the term F(a,b,c,d;e,g) X(a,g,d) F(b,c,a,d;g,f) of a sum over g
  abbrev pub hexagon_step : (ℕ → ℕ → ℕ → E) → ℕ → ℕ → ℕ → ℕ → ℕ → ℕ → ℕ → E → Option E
  hexagon_step exchange a b k d e f g sum =
      if c.fuse b k g && (c.fuse a g d && c.fuse g a d)
      then add_product3_at c.ring sum (c.f a b k d e g) (exchange a g d) (c.f b k a d g f)
      else Some sum

  abbrev pub hexagon_right : (ℕ → ℕ → ℕ → E) → ℕ → ℕ → ℕ → ℕ → ℕ → ℕ → Option E
  hexagon_right exchange a b k d e f = steps (hexagon_step exchange a b k d e f) 0 c.count c.ring.zero

  abbrev pub hexagon : (ℕ → ℕ → ℕ → E) → ℕ → ℕ → ℕ → ℕ → ℕ → ℕ → Option Kind
  hexagon exchange a b k d e f = judged c.held (hexagon_left exchange a b k d e f) (hexagon_right exchange a b k d e f)

  -- the twist or the loop value of the unit is 1
  abbrev pub unit_mark : (ℕ → E) → ℕ → Option Kind
  unit_mark mark a = if a == 0 then judged c.held (Some (mark a)) (Some c.ring.one) else None

  -- R(a,b,c) R(b,a,c) theta_a theta_b
  abbrev pub twist_left : ℕ → ℕ → ℕ → Option E
  twist_left a b k = product4_at c.ring (c.r a b k) (c.r b a k) (c.twist a) (c.twist b)

  abbrev pub twist : ℕ → ℕ → ℕ → Option Kind
  twist a b k = judged c.held (twist_left a b k) (Some (c.twist k))

  -- the term d_c of a sum over c
  abbrev pub loop_sum_step : ℕ → ℕ → ℕ → E → Option E
  loop_sum_step a b k sum = if c.fuse a b k then sum_at c.ring sum (c.loop_value k) else Some sum

  abbrev pub loop_sum_right : ℕ → ℕ → Option E
  loop_sum_right a b = steps (loop_sum_step a b) 0 c.count c.ring.zero

  abbrev pub loop_sum : ℕ → ℕ → Option Kind
  loop_sum a b = judged c.held (product_at c.ring (c.loop_value a) (c.loop_value b)) (loop_sum_right a b)

  -- d_a d_a F(a,a*,a,a;1,1) H(a,a*,a,a;1,1)
  abbrev pub loop_f_left : ℕ → Option E
  loop_f_left a =
      let dual = dual_of c.count c.fuse a in
      product4_at c.ring (c.loop_value a) (c.loop_value a) (c.f a dual a a 0 0) (c.h a dual a a 0 0)

  abbrev pub loop_f : ℕ → Option Kind
  loop_f a = judged c.held (loop_f_left a) (Some c.ring.one)

  -- what is wrong with a law at an admissible index, if anything is
  abbrev pub verdict : Law → List ℕ → Option Kind
  verdict UnitF = at6 unit_f
  verdict UnitR = at3 (unit_vertex c.r)
  verdict UnitW = at3 (unit_vertex c.w)
  verdict RealW = at3 real_w
  verdict InverseW = at3 inverse_w
  verdict NormR = at3 norm_r
  verdict DeriveH = at6 (λ a b k d f e. evaluated (h_stated c a b k d f e))
  verdict DeriveS = at3 (λ a b k. evaluated (s_stated c a b k))
  verdict InverseF = at6 inverse_f
  verdict InverseH = at6 inverse_h
  verdict Rigid = at1 rigid
  verdict Pentagon = at9 pentagon
  verdict HexagonOne = at6 (hexagon c.r)
  verdict HexagonTwo = at6 (hexagon c.s)
  verdict UnitTwist = at1 (unit_mark c.twist)
  verdict Twist = at3 twist
  verdict UnitLoop = at1 (unit_mark c.loop_value)
  verdict LoopSum = at2 loop_sum
  verdict LoopF = at1 loop_f

  -- the first event of a law
  abbrev pub first_of : Law → Option Event
  first_of law = first_event c.count c.fuse law (verdict law)

  -- the first event of laws in their order
  abbrev pub first_in : List Law → Option Event
  first_in [] = None
  first_in (law ∷ laws) = option_or (first_of law) (first_in laws)

  -- the first event of the laws of the version
  abbrev pub first_of_all : Option Event
  first_of_all = first_in (laws_of c.version)
