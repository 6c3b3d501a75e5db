-- The laws of a braided fusion category: the indices of each, and its equation over ring values.
use Rattle.std.specs.Prelude.{◌≡◌, ◌≢◌, ℕ, ◌<◌, Bool, true, ◌&&◌, ◌||◌, ◌==◌, List, [], ◌∷◌, All, length, slice_index, slice_index_or, codes, if◌then◌else◌}
use Rattle.ring_laws.specs.Ring.{Ring}
use Rattle.ring_laws.specs.Sums.{total}
use Rattle.fusion_rules.specs.Check.{RulesPass, dual_of}
use Rattle.symbol_table.specs.Symbols.{Symbols}
use Rattle.symbol_table.specs.declared.law.Law.{Law}
use Rattle.symbol_table.specs.declared.law.Law.TheVariants.{UnitF, UnitR, UnitW, RealW, InverseW, NormR, DeriveH, DeriveS, InverseF, InverseH, Rigid, Pentagon, HexagonOne, HexagonTwo, UnitTwist, Twist, UnitLoop, LoopSum, LoopF}
use Rattle.symbol_table.specs.declared.law.Triple.{Triple}

-- A row of the table of laws: the name that is written, how many labels an index has, and at which places three of
-- them have to fuse.
pub record Form : Type 0 where
  pub name : List ℕ
  pub places : ℕ
  pub triples : List Triple

abbrev pub fuse_at : ℕ → ℕ → ℕ → Triple
fuse_at a b c = record { a = a; b = b; c = c }

-- a b c, with N(a,b,c)
abbrev pub vertex_triples : List Triple
vertex_triples = fuse_at 0 1 2 ∷ []

-- a b c d e f, where F(a,b,c,d;e,f) is admissible
abbrev pub unit_f_triples : List Triple
unit_f_triples = fuse_at 0 1 4 ∷ fuse_at 4 2 3 ∷ fuse_at 1 2 5 ∷ fuse_at 0 5 3 ∷ []

-- a b c d f e, where F(a,b,c,d;e,f) is admissible
abbrev pub derive_h_triples : List Triple
derive_h_triples = fuse_at 0 1 5 ∷ fuse_at 5 2 3 ∷ fuse_at 1 2 4 ∷ fuse_at 0 4 3 ∷ []

-- a b c d e g, with N(a,b,e), N(e,c,d), N(a,b,g), N(g,c,d)
abbrev pub inverse_f_triples : List Triple
inverse_f_triples = fuse_at 0 1 4 ∷ fuse_at 4 2 3 ∷ fuse_at 0 1 5 ∷ fuse_at 5 2 3 ∷ []

-- a b c d f g, with N(b,c,f), N(a,f,d), N(b,c,g), N(a,g,d)
abbrev pub inverse_h_triples : List Triple
inverse_h_triples = fuse_at 1 2 4 ∷ fuse_at 0 4 3 ∷ fuse_at 1 2 5 ∷ fuse_at 0 5 3 ∷ []

-- p l m r x y z f q, with N(p,l,x), N(x,m,y), N(y,r,z), N(m,r,f), N(l,f,q), N(p,q,z)
abbrev pub pentagon_triples : List Triple
pentagon_triples = fuse_at 0 1 4 ∷ fuse_at 4 2 5 ∷ fuse_at 5 3 6 ∷ fuse_at 2 3 7 ∷ fuse_at 1 7 8 ∷ fuse_at 0 8 6 ∷ []

-- a b c d e f, with N(a,b,e), N(e,c,d), N(c,a,f), N(b,f,d)
abbrev pub hexagon_triples : List Triple
hexagon_triples = fuse_at 0 1 4 ∷ fuse_at 4 2 3 ∷ fuse_at 2 0 5 ∷ fuse_at 1 5 3 ∷ []

abbrev vertex : List ℕ → Form
vertex name = record { name = name; places = 3; triples = vertex_triples }

abbrev six : List ℕ → List Triple → Form
six name triples = record { name = name; places = 6; triples = triples }

-- labels of which none have to fuse
abbrev free : List ℕ → ℕ → Form
free name places = record { name = name; places = places; triples = [] }

-- The table of laws. What each says stands in `equation_of` below.
abbrev pub form_of : Law → Form
form_of UnitF = six (codes "unit-f") unit_f_triples
form_of UnitR = vertex (codes "unit-r")
form_of UnitW = vertex (codes "unit-w")
form_of RealW = vertex (codes "real-w")
form_of InverseW = vertex (codes "inverse-w")
form_of NormR = vertex (codes "norm-r")
form_of DeriveH = six (codes "derive-h") derive_h_triples
form_of DeriveS = vertex (codes "derive-s")
form_of InverseF = six (codes "inverse-f") inverse_f_triples
form_of InverseH = six (codes "inverse-h") inverse_h_triples
form_of Rigid = free (codes "rigid") 1
form_of Pentagon = record { name = codes "pentagon"; places = 9; triples = pentagon_triples }
form_of HexagonOne = six (codes "hexagon-1") hexagon_triples
form_of HexagonTwo = six (codes "hexagon-2") hexagon_triples
form_of UnitTwist = free (codes "unit-twist") 1
form_of Twist = vertex (codes "twist")
form_of UnitLoop = free (codes "unit-loop") 1
form_of LoopSum = free (codes "loop") 2
form_of LoopF = free (codes "loop-f") 1

-- the laws of twists and loop values, in the order of the check
abbrev pub mark_laws : List Law
mark_laws = UnitTwist ∷ Twist ∷ UnitLoop ∷ LoopSum ∷ LoopF ∷ []

-- twists and loop values are judged in version 2 alone
abbrev pub second_laws : ℕ → List Law
second_laws version = if version == 2 then mark_laws else []

-- The laws of a version, in the order of the check: those of one symbol, weight or vertex, the pentagon, the hexagons,
-- and those of twists and loop values.
abbrev pub laws_of : ℕ → List Law
laws_of version =
    UnitF ∷ UnitR ∷ UnitW ∷ RealW ∷ InverseW ∷ NormR ∷ DeriveH ∷ DeriveS ∷ InverseF ∷ InverseH ∷ Rigid ∷ Pentagon ∷ HexagonOne ∷ HexagonTwo ∷ second_laws version

-- every law stands in a list
abbrev pub HasEveryLaw : List Law → Type 0
HasEveryLaw laws = (law : Law) → (k : ℕ) × (k < length laws) × (slice_index_or laws k law ≡ law)

-- the labels at three places of an index fuse
abbrev pub fuses_at : (ℕ → ℕ → ℕ → Bool) → List ℕ → Triple → Bool
fuses_at fuse index t = fuse (slice_index index t.a) (slice_index index t.b) (slice_index index t.c)

-- an index is admissible where the labels fuse at each of the law's triples
abbrev pub fuse_all : (ℕ → ℕ → ℕ → Bool) → List ℕ → List Triple → Bool
fuse_all fuse index [] = true
fuse_all fuse index (t ∷ ts) = fuses_at fuse index t && fuse_all fuse index ts

-- a function of labels at those of an index
abbrev pub at1 {ℓ} : {A : Type ℓ} → (ℕ → A) → List ℕ → A
at1 g i = g (slice_index i 0)

abbrev pub at2 {ℓ} : {A : Type ℓ} → (ℕ → ℕ → A) → List ℕ → A
at2 g i = g (slice_index i 0) (slice_index i 1)

abbrev pub at3 {ℓ} : {A : Type ℓ} → (ℕ → ℕ → ℕ → A) → List ℕ → A
at3 g i = g (slice_index i 0) (slice_index i 1) (slice_index i 2)

abbrev pub at6 {ℓ} : {A : Type ℓ} → (ℕ → ℕ → ℕ → ℕ → ℕ → ℕ → A) → List ℕ → A
at6 g i = g (slice_index i 0) (slice_index i 1) (slice_index i 2) (slice_index i 3) (slice_index i 4) (slice_index i 5)

abbrev pub at9 {ℓ} : {A : Type ℓ} → (ℕ → ℕ → ℕ → ℕ → ℕ → ℕ → ℕ → ℕ → ℕ → A) → List ℕ → A
at9 g i =
    g (slice_index i 0) (slice_index i 1) (slice_index i 2) (slice_index i 3) (slice_index i 4) (slice_index i 5) (slice_index i 6) (slice_index i 7) (slice_index i 8)

-- What a law says at an index: two ring values are the same, a value isn't zero, or nothing.
pub data Equation (E : Type 0) : Type 0 where
  Same : (left right : E) → Equation E
  NotZero : (value : E) → Equation E
  Free : Equation E

abbrev pub Holds : {E : Type 0} → Ring E → Equation E → Type 0
Holds r (Same left right) = left ≡ right
Holds r (NotZero value) = value ≢ r.zero
Holds r Free = Unit {0}

-- what is said of some indices alone
abbrev pub where_so : {E : Type 0} → Bool → Equation E → Equation E
where_so so equation = if so then equation else Free

module _ {E : Type 0} (c : Symbols E) where
  abbrev times : E → E → E
  times = c.ring.product

  -- 1 where two labels are the same, else 0
  abbrev pub identity_at : ℕ → ℕ → E
  identity_at e g = if e == g then c.ring.one else c.ring.zero

  -- F(a,b,c,d;e,f) = 1 where a, b or c is the unit
  abbrev pub unit_f_says : ℕ → ℕ → ℕ → ℕ → ℕ → ℕ → Equation E
  unit_f_says a b k d e f = where_so (a == 0 || (b == 0 || k == 0)) (Same (c.f a b k d e f) c.ring.one)

  -- a symbol of a vertex is 1 where a or b is the unit
  abbrev pub unit_says : (ℕ → ℕ → ℕ → E) → ℕ → ℕ → ℕ → Equation E
  unit_says symbol a b k = where_so (a == 0 || b == 0) (Same (symbol a b k) c.ring.one)

  -- conj(w(a,b,c)) = w(a,b,c)
  abbrev pub real_w_says : ℕ → ℕ → ℕ → Equation E
  real_w_says a b k = Same (c.ring.conjugate (c.w a b k)) (c.w a b k)

  -- w(a,b,c) v(a,b,c) = 1
  abbrev pub inverse_w_says : ℕ → ℕ → ℕ → Equation E
  inverse_w_says a b k = Same (times (c.w a b k) (c.v a b k)) c.ring.one

  -- R(a,b,c) conj(R(a,b,c)) w(b,a,c) = w(a,b,c)
  abbrev pub norm_r_says : ℕ → ℕ → ℕ → Equation E
  norm_r_says a b k = Same (times (times (c.r a b k) (c.ring.conjugate (c.r a b k))) (c.w b a k)) (c.w a b k)

  -- sum over f of F(a,b,c,d;e,f) H(a,b,c,d;f,g) = 1 where e = g, else 0
  abbrev pub inverse_f_says : ℕ → ℕ → ℕ → ℕ → ℕ → ℕ → Equation E
  inverse_f_says a b k d e g = Same (total c.ring c.count (λ f. times (c.f a b k d e f) (c.h a b k d f g))) (identity_at e g)

  -- sum over e of H(a,b,c,d;f,e) F(a,b,c,d;e,g) = 1 where f = g, else 0
  abbrev pub inverse_h_says : ℕ → ℕ → ℕ → ℕ → ℕ → ℕ → Equation E
  inverse_h_says a b k d f g = Same (total c.ring c.count (λ e. times (c.h a b k d f e) (c.f a b k d e g))) (identity_at f g)

  -- F(a,a*,a,a;1,1) isn't 0, with a* the dual of a
  abbrev pub rigid_says : ℕ → Equation E
  rigid_says a = NotZero (c.f a (dual_of c.count c.fuse a) a a 0 0)

  -- F(x,m,r,z;y,f) F(p,l,f,z;x,q) = sum over e of F(p,l,m,y;x,e) F(p,e,r,z;y,q) F(l,m,r,q;e,f)
  abbrev pub pentagon_says : ℕ → ℕ → ℕ → ℕ → ℕ → ℕ → ℕ → ℕ → ℕ → Equation E
  pentagon_says p l m r x y z f q =
      Same (times (c.f x m r z y f) (c.f p l f z x q))
      (total c.ring c.count (λ e. times (times (c.f p l m y x e) (c.f p e r z y q)) (c.f l m r q e f)))

  -- X(a,b,e) F(b,a,c,d;e,f) X(a,c,f) = sum over g of F(a,b,c,d;e,g) X(a,g,d) F(b,c,a,d;g,f), with X for R or for S
  abbrev pub hexagon_says : (ℕ → ℕ → ℕ → E) → ℕ → ℕ → ℕ → ℕ → ℕ → ℕ → Equation E
  hexagon_says exchange a b k d e f =
      Same (times (times (exchange a b e) (c.f b a k d e f)) (exchange a k f))
      (total c.ring c.count (λ g. times (times (c.f a b k d e g) (exchange a g d)) (c.f b k a d g f)))

  -- the twist or the loop value of the unit is 1
  abbrev pub unit_mark_says : (ℕ → E) → ℕ → Equation E
  unit_mark_says mark a = where_so (a == 0) (Same (mark a) c.ring.one)

  -- R(a,b,c) R(b,a,c) theta_a theta_b = theta_c
  abbrev pub twist_says : ℕ → ℕ → ℕ → Equation E
  twist_says a b k = Same (times (times (times (c.r a b k) (c.r b a k)) (c.twist a)) (c.twist b)) (c.twist k)

  -- d_a d_b = sum over c with N(a,b,c) of d_c
  abbrev pub loop_sum_says : ℕ → ℕ → Equation E
  loop_sum_says a b =
      Same (times (c.loop_value a) (c.loop_value b)) (total c.ring c.count (λ k. if c.fuse a b k then c.loop_value k else c.ring.zero))

  -- d_a d_a F(a,a*,a,a;1,1) H(a,a*,a,a;1,1) = 1, with a* the dual of a
  abbrev pub loop_f_says : ℕ → Equation E
  loop_f_says a =
      let dual = dual_of c.count c.fuse a in
      Same (times (times (times (c.loop_value a) (c.loop_value a)) (c.f a dual a a 0 0)) (c.h a dual a a 0 0)) c.ring.one

  -- H and S are formulas of their own; deriving them is no equation
  abbrev pub equation_of : Law → List ℕ → Equation E
  equation_of UnitF = at6 unit_f_says
  equation_of UnitR = at3 (unit_says c.r)
  equation_of UnitW = at3 (unit_says c.w)
  equation_of RealW = at3 real_w_says
  equation_of InverseW = at3 inverse_w_says
  equation_of NormR = at3 norm_r_says
  equation_of DeriveH = λ i. Free
  equation_of DeriveS = λ i. Free
  equation_of InverseF = at6 inverse_f_says
  equation_of InverseH = at6 inverse_h_says
  equation_of Rigid = at1 rigid_says
  equation_of Pentagon = at9 pentagon_says
  equation_of HexagonOne = at6 (hexagon_says c.r)
  equation_of HexagonTwo = at6 (hexagon_says c.s)
  equation_of UnitTwist = at1 (unit_mark_says c.twist)
  equation_of Twist = at3 twist_says
  equation_of UnitLoop = at1 (unit_mark_says c.loop_value)
  equation_of LoopSum = at2 loop_sum_says
  equation_of LoopF = at1 loop_f_says

  -- the equation of a law is true at every index
  abbrev pub LawHolds : Law → Type 0
  LawHolds law =
      (i : List ℕ) → length i ≡ (form_of law).places → All (λ t. t < c.count) i → fuse_all c.fuse i (form_of law).triples ≡ true
      → Holds c.ring (equation_of law i)

  -- The rules pass, and every equation of every law of the version is true. The order of the laws says nothing here.
  pub record IsLawful : Type 0 where
    pub rules : RulesPass c.count c.fuse
    pub laws : All LawHolds (laws_of c.version)
