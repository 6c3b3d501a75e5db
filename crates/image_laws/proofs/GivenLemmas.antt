-- Symbols that are those of what gives them, as a category's are; and the laws of a version.
use Rattle.std.proofs.Common.{◌≡◌, ℕ, Bool, true, false, ◌==◌, Option, Some, None, List, [], refl, sym, ◌∙◌}
use Rattle.std.specs.Prelude.{All, if◌then◌else◌, unwrap_or, nat_lt, IsTrue, IfSome}
use Rattle.std.specs.List.{AllByRecursion}
use Rattle.std.proofs.lemmas.Bool.{eqb-true}
use Rattle.std.proofs.lemmas.List.Elements.{All-from_recursion}
use Rattle.std.proofs.lemmas.Map.Views.{IfSome-lookup_from_All}
use Rattle.ring_laws.specs.Ring.{Ring, Held, RingLaws}
use Rattle.ring_laws.proofs.SumLemmas.{if_no}
use Rattle.symbol_table.specs.Symbols.{Given, Symbols, f_admissible, symbols_of}
use Rattle.symbol_table.specs.Laws.{laws_of, mark_laws}
use Rattle.symbol_table.specs.declared.law.Law.{Law}
use Rattle.symbol_table.specs.declared.law.Law.TheVariants.{UnitF, UnitR, UnitW, RealW, InverseW, NormR, DeriveH, DeriveS, InverseF, InverseH, Rigid, Pentagon, HexagonOne, HexagonTwo, UnitTwist, Twist, UnitLoop, LoopSum, LoopF}
use Rattle.symbol_table.proofs.LawLemmas.{InVersion}
use Rattle.symbol_table.specs.Draft.{AreMembers, DraftValue, IsOver, mark_at}
use Rattle.symbol_table.specs.Category.{draft_symbols}
use Rattle.image_laws.specs.Category.{given_of}

module _ {E : Type 0} (c : Symbols E) where
  abbrev x : E → E → E
  x = c.ring.product

  -- conj(F(a,b,m,d;e,f)) w(b,m,f) w(a,f,d) v(a,b,e) v(e,m,d)
  abbrev pub h_by : ℕ → ℕ → ℕ → ℕ → ℕ → ℕ → E
  h_by a b m d f e = x (x (x (x (c.ring.conjugate (c.f a b m d e f)) (c.w b m f)) (c.w a f d)) (c.v a b e)) (c.v e m d)

  -- conj(R(b,a,e)) w(a,b,e) v(b,a,e)
  abbrev pub s_by : ℕ → ℕ → ℕ → E
  s_by a b e = x (x (c.ring.conjugate (c.r b a e)) (c.w a b e)) (c.v b a e)

  -- H and S are their formulas where they are admissible, and what isn't admissible and what is no label has 0
  pub record AreGiven : Type 0 where
    pub h : (a b m d f e : ℕ) → c.h a b m d f e ≡ (if f_admissible c.fuse a b m d e f then h_by a b m d f e else c.ring.zero)
    pub s : (a b e : ℕ) → c.s a b e ≡ (if c.fuse a b e then s_by a b e else c.ring.zero)
    pub f_off : (a b m d e f : ℕ) → f_admissible c.fuse a b m d e f ≡ false → c.f a b m d e f ≡ c.ring.zero
    pub r_off : (a b e : ℕ) → c.fuse a b e ≡ false → c.r a b e ≡ c.ring.zero
    pub w_off : (a b e : ℕ) → c.fuse a b e ≡ false → c.w a b e ≡ c.ring.zero
    pub v_off : (a b e : ℕ) → c.fuse a b e ≡ false → c.v a b e ≡ c.ring.zero
    pub twist_off : (a : ℕ) → nat_lt a c.count ≡ false → c.twist a ≡ c.ring.zero
    pub loop_off : (a : ℕ) → nat_lt a c.count ≡ false → c.loop_value a ≡ c.ring.zero

  -- every twist and every loop value is of the ring
  pub record HasMarks : Type 0 where
    pub twist_is : (a : ℕ) → IsTrue (c.ring.member (c.twist a))
    pub loop_is : (a : ℕ) → IsTrue (c.ring.member (c.loop_value a))

-- a value that is zero off a test
kept : {A : Type 0} (b : Bool) (x zero : A) → (b ≡ false → x ≡ zero) → (if b then x else zero) ≡ x
kept true x zero off = refl
kept false x zero off = sym (off refl)

module _ {E : Type 0} (c : Symbols E) (are : AreGiven c) where
  f_kept : (a b m d e f : ℕ) → (if f_admissible c.fuse a b m d e f then c.f a b m d e f else c.ring.zero) ≡ c.f a b m d e f
  f_kept a b m d e f = kept (f_admissible c.fuse a b m d e f) (c.f a b m d e f) c.ring.zero (are.f_off a b m d e f)

  r_kept : (a b e : ℕ) → (if c.fuse a b e then c.r a b e else c.ring.zero) ≡ c.r a b e
  r_kept a b e = kept (c.fuse a b e) (c.r a b e) c.ring.zero (are.r_off a b e)

  w_kept : (a b e : ℕ) → (if c.fuse a b e then c.w a b e else c.ring.zero) ≡ c.w a b e
  w_kept a b e = kept (c.fuse a b e) (c.w a b e) c.ring.zero (are.w_off a b e)

  v_kept : (a b e : ℕ) → (if c.fuse a b e then c.v a b e else c.ring.zero) ≡ c.v a b e
  v_kept a b e = kept (c.fuse a b e) (c.v a b e) c.ring.zero (are.v_off a b e)

  h_again : (a b m d f e : ℕ) → (symbols_of c.ring c.held (given_of c)).h a b m d f e ≡ c.h a b m d f e
  h_again a b m d f e =
      let o = c.ring.product in
      (λ j. if f_admissible c.fuse a b m d e f
      then o (o (o (o (c.ring.conjugate (f_kept a b m d e f j)) (w_kept b m f j)) (w_kept a f d j)) (v_kept a b e j)) (v_kept e m d j)
      else c.ring.zero)
      ∙ sym (are.h a b m d f e)

  s_again : (a b e : ℕ) → (symbols_of c.ring c.held (given_of c)).s a b e ≡ c.s a b e
  s_again a b e =
      let o = c.ring.product in
      (λ j. if c.fuse a b e then o (o (c.ring.conjugate (r_kept b a e j)) (w_kept a b e j)) (v_kept b a e j) else c.ring.zero)
      ∙ sym (are.s a b e)

  -- they are those of what is given
  pub given_again : symbols_of c.ring c.held (given_of c) ≡ c
  given_again = λ j. record c {
    f = λ a b m d e f. f_kept a b m d e f j;
    h = λ a b m d f e. h_again a b m d f e j;
    r = λ a b e. r_kept a b e j;
    s = λ a b e. s_again a b e j;
    w = λ a b e. w_kept a b e j;
    v = λ a b e. v_kept a b e j;
    twist = λ a. kept (nat_lt a c.count) (c.twist a) c.ring.zero (are.twist_off a) j;
    loop_value = λ a. kept (nat_lt a c.count) (c.loop_value a) c.ring.zero (are.loop_off a) j;
  }

-- the symbols of anything that is given are such
pub are_given : {E : Type 0} (ring : Ring E) (held : Held E) (g : Given E) → AreGiven (symbols_of ring held g)
are_given ring held g = record {
  h = λ a b m d f e. refl;
  s = λ a b e. refl;
  f_off = λ a b m d e f off. if_no (f_admissible g.fuse a b m d e f) _ ring.zero off;
  r_off = λ a b e off. if_no (g.fuse a b e) _ ring.zero off;
  w_off = λ a b e off. if_no (g.fuse a b e) _ ring.zero off;
  v_off = λ a b e off. if_no (g.fuse a b e) _ ring.zero off;
  twist_off = λ a off. if_no (nat_lt a g.count) _ ring.zero off;
  loop_off = λ a off. if_no (nat_lt a g.count) _ ring.zero off;
}

module _ {E : Type 0} (ring : Ring E) (held : Held E) (laws : RingLaws ring held) where
  mark_is : (b : Bool) (o : Option E) → IfSome o (λ x. IsTrue (ring.member x)) → IsTrue (ring.member (if b then unwrap_or o ring.one else ring.zero))
  mark_is true None h = laws.one_is
  mark_is true (Some x) h = h
  mark_is false o h = laws.zero_is

  marks_are : (n : ℕ) (entries : List (ℕ × E)) (a : ℕ) → AreMembers ring entries
      → IsTrue (ring.member (if nat_lt a n then unwrap_or (mark_at entries a) ring.one else ring.zero))
  marks_are n entries a are = mark_is (nat_lt a n) (mark_at entries a) (IfSome-lookup_from_All (λ x. IsTrue (ring.member x)) _ entries are)

  -- the twists and loop values of a draft
  pub has_marks : {D : Type 0} (draft : DraftValue D E) → IsOver ring draft → HasMarks (draft_symbols ring held draft)
  has_marks draft over = record {
    twist_is = λ a. marks_are draft.rules.count draft.set_twist a over.twist;
    loop_is = λ a. marks_are draft.rules.count draft.set_loop a over.loop_value;
  }

-- what holds of every law that a version has holds of its laws
pub all_in_version : (version : ℕ) (P : Law → Type 0) → ((law : Law) → InVersion version P law) → All P (laws_of version)
all_in_version version P each =
    All-from_recursion P (laws_of version) (
      each UnitF,
      (
        each UnitR,
        (
          each UnitW,
          (
            each RealW,
            (
              each InverseW,
              (
                each NormR,
                (
                  each DeriveH,
                  (
                    each DeriveS,
                    (
                      each InverseF,
                      (
                        each InverseH,
                        (each Rigid, (each Pentagon, (each HexagonOne, (each HexagonTwo, marks (version == 2) (eqb-true version 2))))),
                      ),
                    ),
                  ),
                ),
              ),
            ),
          ),
        ),
      ),
    )
  where
    marks : (b : Bool) → (b ≡ true → version ≡ 2) → AllByRecursion P (if b then mark_laws else [])
    marks true second = let is = second refl in (each UnitTwist is, (each Twist is, (each UnitLoop is, (each LoopSum is, (each LoopF is, tt)))))
    marks false second = tt
