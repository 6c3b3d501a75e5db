-- Operators on vectors by place, and the strands that they leave.
use Rattle.std.proofs.Common.{◌≡◌, ℕ, ◌+◌, false, ap, sym, ◌∙◌, arith, inl, inr}
use Rattle.std.specs.Prelude.{IsTrue}
use Rattle.std.proofs.lemmas.Bool.Decides.{eqb_tells}
use Rattle.ring_laws.specs.Sums.{total}
use Rattle.ring_laws.proofs.SumLemmas as S
use Rattle.symbol_table.specs.AllLabels.{goes_left}
use Rattle.symbol_table.specs.Symbols.{Symbols}
use Rattle.comb_laws.specs.Operators.{Kernel}
use Rattle.tree_laws.specs.Operators.{swapped}
use Rattle.tree_laws.specs.Trees.{put}
use Rattle.tree_laws.proofs.Keys.{Key, put_here, put_off, put_again, same_key}

-- strands with those on both sides of gap i + 1 swapped
pub swapped_first : (i : ℕ) (s : Key) → swapped i s i ≡ s (i + 1)
swapped_first i s = put_here i (s (i + 1)) (put (i + 1) (s i) s)

pub swapped_second : (i : ℕ) (s : Key) → swapped i s (i + 1) ≡ s i
swapped_second i s = put_off i (s (i + 1)) (put (i + 1) (s i) s) (i + 1) (λ e. omega arith) ∙ put_here (i + 1) (s i) s

pub swapped_off : (i : ℕ) (s : Key) (g : ℕ) → (g ≡ i → ⊥) → (g ≡ i + 1 → ⊥) → swapped i s g ≡ s g
swapped_off i s g a b = put_off i (s (i + 1)) (put (i + 1) (s i) s) g a ∙ put_off (i + 1) (s i) s g b

pub put_own : (k : ℕ) (x : Key) → put k (x k) x ≡ x
put_own k x = same_key _ _ (λ g.
    elim (eqb_tells g k) [
      | inl here ↦ S.if_yes _ (x k) (x g) here.0 ∙ ap x (sym here.1)
      | inr off ↦ put_off k (x k) x g off.1
    ])

-- the labels on both sides of one that is put
pub at_put : {A : Type 0} (f : ℕ → ℕ → ℕ → A) (i t : ℕ) (x : Key) → f (put (i + 1) t x i) (put (i + 1) t x (i + 1)) (put (i + 1) t x (i + 2)) ≡ f (x i) t (x (i + 2))
at_put f i t x =
    let before : put (i + 1) t x i ≡ x i = put_off (i + 1) t x i (λ e. omega arith) in
    let here : put (i + 1) t x (i + 1) ≡ t = put_here (i + 1) t x in
    let after : put (i + 1) t x (i + 2) ≡ x (i + 2) = put_off (i + 1) t x (i + 2) (λ e. omega arith) in
    λ j. f (before j) (here j) (after j)

-- A vector by place whose values are members, zero where the label between the strands i + 1 and i + 2 makes no path.
pub record IsAt {E : Type 0} (c : Symbols E) (strand : Key) (i : ℕ) (V : Key → E) : Type 0 where
  pub members : (x : Key) → IsTrue (c.ring.member (V x))
  pub off : (x : Key) → goes_left c (x i) (strand i) (strand (i + 1)) (x (i + 2)) (x (i + 1)) ≡ false → V x ≡ c.ring.zero

module _ {E : Type 0} (c : Symbols E) where
  -- an operator at gap i + 1, by its kernel
  abbrev pub across : Kernel E → Key → ℕ → (Key → E) → Key → E
  across kernel strand i V x =
      total c.ring c.count (λ t. c.ring.product (kernel (x i) (strand i) (strand (i + 1)) (x (i + 2)) t (x (i + 1))) (V (put (i + 1) t x)))

  -- at a label that is put there
  pub across_put : (kernel : Kernel E) (strand x : Key) (i u : ℕ) (V : Key → E)
      → across kernel strand i V (put (i + 1) u x)
      ≡ total c.ring c.count (λ t. c.ring.product (kernel (x i) (strand i) (strand (i + 1)) (x (i + 2)) t u) (V (put (i + 1) t x)))
  across_put kernel strand x i u V j =
      total c.ring c.count (λ t. c.ring.product (at_put (λ p u y. kernel p (strand i) (strand (i + 1)) y t u) i u x j) (V (put_again (i + 1) t u x j)))

  pub none_put : (strand : Key) (i : ℕ) (V : Key → E) → IsAt c strand i V → (x : Key) (t : ℕ)
      → goes_left c (x i) (strand i) (strand (i + 1)) (x (i + 2)) t ≡ false → V (put (i + 1) t x) ≡ c.ring.zero
  none_put strand i V is x t off = is.off (put (i + 1) t x) (at_put (λ p t y. goes_left c p (strand i) (strand (i + 1)) y t) i t x ∙ off)
