-- What the symbols of a category obey at all labels, zero where not admissible: what proofs about trees start from.
use Rattle.std.specs.Prelude.{◌≡◌, ℕ, ◌<◌, Bool, true, false, ◌&&◌, ◌||◌, ◌==◌, IsTrue, if◌then◌else◌}
use Rattle.ring_laws.specs.Sums.{total}
use Rattle.symbol_table.specs.Index.{AreThreeLabels}
use Rattle.symbol_table.specs.Symbols.{Symbols, f_admissible}
use Rattle.symbol_table.specs.Laws.{Holds, hexagon_says, pentagon_says}

module _ {E : Type 0} (c : Symbols E) where
  -- Only labels below the count fuse, and in both orders; every symbol is a member of the ring, and 0 where it isn't
  -- admissible.
  pub record IsProper : Type 0 where
    pub labels : (a b e : ℕ) → c.fuse a b e ≡ true → AreThreeLabels c.count a b e
    pub commutes : (a b e : ℕ) → c.fuse a b e ≡ c.fuse b a e
    pub f_is : (a b m d e f : ℕ) → IsTrue (c.ring.member (c.f a b m d e f))
    pub h_is : (a b m d f e : ℕ) → IsTrue (c.ring.member (c.h a b m d f e))
    pub r_is : (a b e : ℕ) → IsTrue (c.ring.member (c.r a b e))
    pub s_is : (a b e : ℕ) → IsTrue (c.ring.member (c.s a b e))
    pub w_is : (a b e : ℕ) → IsTrue (c.ring.member (c.w a b e))
    pub v_is : (a b e : ℕ) → IsTrue (c.ring.member (c.v a b e))
    pub f_off : (a b m d e f : ℕ) → f_admissible c.fuse a b m d e f ≡ false → c.f a b m d e f ≡ c.ring.zero
    pub h_off : (a b m d f e : ℕ) → f_admissible c.fuse a b m d e f ≡ false → c.h a b m d f e ≡ c.ring.zero
    pub r_off : (a b e : ℕ) → c.fuse a b e ≡ false → c.r a b e ≡ c.ring.zero
    pub s_off : (a b e : ℕ) → c.fuse a b e ≡ false → c.s a b e ≡ c.ring.zero
    pub w_off : (a b e : ℕ) → c.fuse a b e ≡ false → c.w a b e ≡ c.ring.zero
    pub v_off : (a b e : ℕ) → c.fuse a b e ≡ false → c.v a b e ≡ c.ring.zero

  -- The unit fuses with a label to that label alone, and an admissible F, R or w with a unit is 1.
  pub record HasUnit : Type 0 where
    pub some : 0 < c.count
    pub left : (a b : ℕ) → a < c.count → c.fuse 0 a b ≡ (a == b)
    pub right : (a b : ℕ) → a < c.count → c.fuse a 0 b ≡ (a == b)
    pub f : (a b m d e f : ℕ) → f_admissible c.fuse a b m d e f ≡ true → (a == 0 || (b == 0 || m == 0)) ≡ true → c.f a b m d e f ≡ c.ring.one
    pub r : (a b e : ℕ) → c.fuse a b e ≡ true → (a == 0 || b == 0) ≡ true → c.r a b e ≡ c.ring.one
    pub w : (a b e : ℕ) → c.fuse a b e ≡ true → (a == 0 || b == 0) ≡ true → c.w a b e ≡ c.ring.one

  -- The weights are real and have inverses; R keeps them. In the inner products that they give, H is the adjoint of F
  -- and S that of R: w(a,b,e) w(e,m,d) H(a,b,m,d;f,e) = w(b,m,f) w(a,f,d) conj(F(a,b,m,d;e,f)), and
  -- w(b,a,e) S(a,b,e) = w(a,b,e) conj(R(b,a,e)).
  pub record IsWeighted : Type 0 where
    pub real : (a b e : ℕ) → c.ring.conjugate (c.w a b e) ≡ c.w a b e
    pub inverse : (a b e : ℕ) → c.fuse a b e ≡ true → c.ring.product (c.w a b e) (c.v a b e) ≡ c.ring.one
    pub norm_r : (a b e : ℕ) → c.ring.product (c.ring.product (c.r a b e) (c.ring.conjugate (c.r a b e))) (c.w b a e) ≡ c.w a b e
    pub adjoint_f : (a b m d e f : ℕ)
        → c.ring.product (c.ring.product (c.w a b e) (c.w e m d)) (c.h a b m d f e)
        ≡ c.ring.product (c.ring.product (c.w b m f) (c.w a f d)) (c.ring.conjugate (c.f a b m d e f))
    pub adjoint_r : (a b e : ℕ) → c.ring.product (c.w b a e) (c.s a b e) ≡ c.ring.product (c.w a b e) (c.ring.conjugate (c.r b a e))

  -- a and b make e, which with m makes d
  abbrev pub goes_left : ℕ → ℕ → ℕ → ℕ → ℕ → Bool
  goes_left a b m d e = c.fuse a b e && c.fuse e m d

  -- b and m make f, which after a makes d
  abbrev pub goes_right : ℕ → ℕ → ℕ → ℕ → ℕ → Bool
  goes_right a b m d f = c.fuse b m f && c.fuse a f d

  -- one where the test holds, else zero
  abbrev pub mark : Bool → E
  mark b = if b then c.ring.one else c.ring.zero

  -- H is the inverse of F on both sides, and the pentagon and both hexagons are true.
  pub record HasEquations : Type 0 where
    pub inverse_f : (a b m d e g : ℕ)
        → total c.ring c.count (λ f. c.ring.product (c.f a b m d e f) (c.h a b m d f g)) ≡ mark (g == e && goes_left a b m d g)
    pub inverse_h : (a b m d f g : ℕ)
        → total c.ring c.count (λ e. c.ring.product (c.h a b m d f e) (c.f a b m d e g)) ≡ mark (g == f && goes_right a b m d g)
    pub pentagon : (p l m r x y z f q : ℕ) → Holds c.ring (pentagon_says c p l m r x y z f q)
    pub hexagon_one : (a b m d e f : ℕ) → Holds c.ring (hexagon_says c c.r a b m d e f)
    pub hexagon_two : (a b m d e f : ℕ) → Holds c.ring (hexagon_says c c.s a b m d e f)
