-- The symbols of a category at all labels.
use Rattle.std.specs.Prelude.{ℕ, nat_lt, Bool, IsTrue, Option, unwrap_or, ◌&&◌, if◌then◌else◌}
use Rattle.ring_laws.specs.Ring.{Ring, Held}

-- What a draft gives: the version of its laws, how many labels there are, which triples fuse, and the values that
-- were set; a twist and a loop value are set by label.
pub record Given (E : Type 0) : Type 0 where
  pub version : ℕ
  pub count : ℕ
  pub fuse : ℕ → ℕ → ℕ → Bool
  pub set_f : ℕ → ℕ → ℕ → ℕ → ℕ → ℕ → Option E
  pub set_r : ℕ → ℕ → ℕ → Option E
  pub set_w : ℕ → ℕ → ℕ → Option E
  pub set_v : ℕ → ℕ → ℕ → Option E
  pub set_twist : ℕ → Option E
  pub set_loop : ℕ → Option E

-- The symbols at all labels, over a ring, and the version of the laws that they are to obey.
pub record Symbols (E : Type 0) : Type 0 where
  pub version : ℕ
  pub ring : Ring E
  pub held : Held E
  pub count : ℕ
  pub fuse : ℕ → ℕ → ℕ → Bool
  pub f : ℕ → ℕ → ℕ → ℕ → ℕ → ℕ → E
  pub h : ℕ → ℕ → ℕ → ℕ → ℕ → ℕ → E
  pub r : ℕ → ℕ → ℕ → E
  pub s : ℕ → ℕ → ℕ → E
  pub w : ℕ → ℕ → ℕ → E
  pub v : ℕ → ℕ → ℕ → E
  pub twist : ℕ → E
  pub loop_value : ℕ → E

-- F(a,b,c,d;e,f) is admissible where its four vertices are.
abbrev pub f_admissible : (ℕ → ℕ → ℕ → Bool) → ℕ → ℕ → ℕ → ℕ → ℕ → ℕ → Bool
f_admissible fuse a b c d e f = fuse a b e && (fuse e c d && (fuse b c f && fuse a f d))

-- An admissible index without a set value has 1, and one that isn't admissible has 0.
abbrev pub f_of : {E : Type 0} → Ring E → Given E → ℕ → ℕ → ℕ → ℕ → ℕ → ℕ → E
f_of ring g a b c d e f =
    if f_admissible g.fuse a b c d e f then unwrap_or (g.set_f a b c d e f) ring.one else ring.zero

-- The same for a symbol of a vertex, whose set values are these.
abbrev pub vertex_of : {E : Type 0} → Ring E → Given E → (ℕ → ℕ → ℕ → Option E) → ℕ → ℕ → ℕ → E
vertex_of ring g values a b c = if g.fuse a b c then unwrap_or (values a b c) ring.one else ring.zero

-- The same for a twist or a loop value: a label without a set value has 1, and what is no label has 0.
abbrev pub mark_of : {E : Type 0} → Ring E → Given E → (ℕ → Option E) → ℕ → E
mark_of ring g values a = if nat_lt a g.count then unwrap_or (values a) ring.one else ring.zero

-- H(a,b,c,d;f,e) = conj(F(a,b,c,d;e,f)) w(b,c,f) w(a,f,d) v(a,b,e) v(e,c,d)
abbrev pub h_of : {E : Type 0} → Ring E → Given E → ℕ → ℕ → ℕ → ℕ → ℕ → ℕ → E
h_of ring g a b c d f e =
    let w = vertex_of ring g g.set_w in
    let v = vertex_of ring g g.set_v in
    let x = ring.product in
    if f_admissible g.fuse a b c d e f
    then x (x (x (x (ring.conjugate (f_of ring g a b c d e f)) (w b c f)) (w a f d)) (v a b e)) (v e c d)
    else ring.zero

-- S(a,b,c) = conj(R(b,a,c)) w(a,b,c) v(b,a,c)
abbrev pub s_of : {E : Type 0} → Ring E → Given E → ℕ → ℕ → ℕ → E
s_of ring g a b c =
    let x = ring.product in
    if g.fuse a b c
    then x (x (ring.conjugate (vertex_of ring g g.set_r b a c)) (vertex_of ring g g.set_w a b c)) (vertex_of ring g g.set_v b a c)
    else ring.zero

-- the symbols of what is given
abbrev pub symbols_of : {E : Type 0} → Ring E → Held E → Given E → Symbols E
symbols_of ring held g = record {
  version = g.version;
  ring = ring;
  held = held;
  count = g.count;
  fuse = g.fuse;
  f = f_of ring g;
  h = h_of ring g;
  r = vertex_of ring g g.set_r;
  s = s_of ring g;
  w = vertex_of ring g g.set_w;
  v = vertex_of ring g g.set_v;
  twist = mark_of ring g g.set_twist;
  loop_value = mark_of ring g g.set_loop;
}

-- every F is of the ring
abbrev pub IsOfRing : {E : Type 0} → Symbols E → Type 0
IsOfRing c = (a b k d e f : ℕ) → IsTrue (c.ring.member (c.f a b k d e f))
