-- Operators at gaps that are far apart commute.
use Rattle.std.proofs.Common.{◌≡◌, ℕ, ◌+◌, ◌-◌, ◌<◌, Bool, true, false, List, Option, Some, None, length, refl, ap, ap₂, sym, ◌∙◌, arith, slice_index}
use mathlib.Core.Path.{fun_ext}
use Rattle.std.proofs.lemmas.Grind.{same_number_lists}
use Rattle.ring_laws.specs.Ring.{Held, RingLaws}
use Rattle.ring_laws.proofs.SumLemmas as S
use Rattle.symbol_table.specs.AllLabels.{IsProper}
use Rattle.symbol_table.specs.Symbols.{Symbols}
use Rattle.comb_laws.specs.Operators.{Kernel, acted, kernel_of, strands_after}
use Rattle.comb_laws.specs.Paths.{Path, Vector, is_path}
use Rattle.comb_laws.specs.Words.{acted_by, comb_acts, operator_on}
use Rattle.program_text.specs.Letters.{gap_of}
use Rattle.comb_laws.specs.declared.operator.Operator.{Operator}
use Rattle.comb_laws.specs.declared.operator.Operator.TheVariants.{Exchange, Project}
use Rattle.tree_laws.specs.Operators.{swapped}
use Rattle.tree_laws.specs.Trees.{put}
use Rattle.tree_laws.proofs.Keys.{Key, put_off, put_swap}
use Rattle.path_laws.specs.Moves.{FarLettersCommute, FarOperatorsCommute}
use Rattle.path_laws.proofs.ActLemmas as A
use Rattle.path_laws.proofs.ActLemmas.{after_is, moved, moved_is}
use Rattle.path_laws.proofs.Across.{across, swapped_off}

-- the strands after both, in either order
far_swapped : (i j : ℕ) (s : Key) → i + 1 < j → swapped j (swapped i s) ≡ swapped i (swapped j s)
far_swapped i j s far =
    let a = s (i + 1) in
    let b = s i in
    let d = s (j + 1) in
    let e = s j in
    (λ m. put j (swapped_off i s (j + 1) (λ e. omega arith) (λ e. omega arith) m) (put (j + 1) (swapped_off i s j (λ e. omega arith) (λ e. omega arith) m) (swapped i s)))
    ∙ (ap (put j d) (put_swap (j + 1) i e a (put (i + 1) b s) (λ e. omega arith) ∙ ap (put i a) (put_swap (j + 1) (i + 1) e b s (λ e. omega arith)))
    ∙ (put_swap j i d a (put (i + 1) b (put (j + 1) e s)) (λ e. omega arith)
    ∙ (ap (put i a) (put_swap j (i + 1) d b (put (j + 1) e s) (λ e. omega arith))
    ∙ (λ m. put i (sym (swapped_off j s (i + 1) (λ e. omega arith) (λ e. omega arith)) m) (put (i + 1) (sym (swapped_off j s i (λ e. omega arith) (λ e. omega arith)) m) (swapped j s))))))

far_moved : (first second : Operator) (i j : ℕ) (s : Key) → i + 1 < j → moved second j (moved first i s) ≡ moved first i (moved second j s)
far_moved (Exchange sign) (Exchange sign') i j s far = far_swapped i j s far
far_moved (Exchange sign) (Project q) i j s far = refl
far_moved (Project q) (Exchange sign) i j s far = refl
far_moved (Project q) (Project q') i j s far = refl

pub far_strands : (first second : Operator) (ss : List ℕ) (i j : ℕ) → 0 < i → i + 1 < j → j < length ss
    → strands_after second (strands_after first ss i) j ≡ strands_after first (strands_after second ss j) i
far_strands first second ss i j above far low =
    let once = strands_after first ss i in
    let other = strands_after second ss j in
    let at_i : i ≡ (i - 1) + 1 = omega (arith, above) in
    let at_j : j ≡ (j - 1) + 1 = omega (arith, far) in
    let low_i : i < length ss = omega (arith, far, low) in
    let first_is = after_is first ss (i - 1) i at_i low_i in
    let second_is = after_is second ss (j - 1) j at_j low in
    let low_j : j < length (strands_after first ss i) = omega (arith, first_is.long, low) in
    let low_i' : i < length (strands_after second ss j) = omega (arith, second_is.long, low_i) in
    let left = after_is second once (j - 1) j at_j low_j in
    let right = after_is first other (i - 1) i at_i low_i' in
    let place : slice_index (strands_after second (strands_after first ss i) j) ≡ slice_index (strands_after first (strands_after second ss j) i) =
    moved_is second once (j - 1) j at_j low_j
    ∙ (ap (moved second (j - 1)) (moved_is first ss (i - 1) i at_i low_i)
    ∙ (far_moved first second (i - 1) (j - 1) (slice_index ss) (omega (arith, above, far))
    ∙ sym (moved_is first other (i - 1) i at_i low_i' ∙ ap (moved first (i - 1)) (moved_is second ss (j - 1) j at_j low)))) in
    same_number_lists _ _ (left.long ∙ (first_is.long ∙ sym (right.long ∙ second_is.long))) (λ g _. ap (λ (s : Key). s g) place)

module _ {E : Type 0} (c : Symbols E) {K : Held E} (laws : RingLaws c.ring K) (proper : IsProper c) where
  abbrev o : E → E → E
  o = c.ring.product

  -- s' is s with other strands at i, and s'' is s with other strands at j
  far_across : (M N : Kernel E) (s s' s'' x : Key) (i j : ℕ) (V : Key → E) → i + 1 < j
      → s' j ≡ s j → s' (j + 1) ≡ s (j + 1) → s'' i ≡ s i → s'' (i + 1) ≡ s (i + 1)
      → across c N s' j (across c M s i V) x ≡ across c M s'' i (across c N s j V) x
  far_across M N s s' s'' x i j V apart a b d e =
      S.total_same laws c.count _ _ (λ t _. ap₂ o
      (λ k. N (x j) (a k) (b k) (x (j + 2)) t (x (j + 1)))
      (S.total_same laws c.count _ _ (λ r _. ap₂ o
      (λ k. M (put_off (j + 1) t x i (λ z. omega arith) k) (s i) (s (i + 1)) (put_off (j + 1) t x (i + 2) (λ z. omega arith) k) r (put_off (j + 1) t x (i + 1) (λ z. omega arith) k))
      (ap V (put_swap (i + 1) (j + 1) r t x (λ z. omega arith)))))
      ∙ S.product-total laws c.count _ _)
      ∙ (S.total_swap laws c.count c.count _
      ∙ S.total_same laws c.count _ _ (λ r _.
      S.total_same laws c.count _ _ (λ t _. S.product_left laws _ _ _)
      ∙ (sym (S.product-total laws c.count _ _)
      ∙ sym (ap₂ o
      (λ k. M (x i) (d k) (e k) (x (i + 2)) r (x (i + 1)))
      (S.total_same laws c.count _ _ (λ t _. ap (λ y. o y (V (put (j + 1) t (put (i + 1) r x))))
      (λ k. N (put_off (i + 1) r x j (λ z. omega arith) k) (s j) (s (j + 1)) (put_off (i + 1) r x (j + 2) (λ z. omega arith) k) t (put_off (i + 1) r x (j + 1) (λ z. omega arith) k))))))))

  -- vectors after operators are the same where they are so at paths
  pub same_after : (old old' after : List ℕ) (k k' : ℕ) (M M' : Kernel E) (v w : Vector E)
      → ((x : Path) → is_path c after x ≡ true → acted c old after k M v x ≡ acted c old' after k' M' w x) → acted c old after k M v ≡ acted c old' after k' M' w
  same_after old old' after k k' M M' v w same = fun_ext (λ x. pick x (is_path c after x) refl)
    where
      pick : (x : Path) (b : Bool) → is_path c after x ≡ b → acted c old after k M v x ≡ acted c old' after k' M' w x
      pick x true on = same x on
      pick x false off = S.if_no _ _ _ off ∙ sym (S.if_no _ _ _ off)

  pub far_operators : FarOperatorsCommute c
  far_operators ss v i j first second above far low m =
      (far_strands first second ss i j above far low m, vectors m)
    where
      once : List ℕ
      once = strands_after first ss i

      other : List ℕ
      other = strands_after second ss j

      at_i : i ≡ (i - 1) + 1
      at_i = omega (arith, above)

      at_j : j ≡ (j - 1) + 1
      at_j = omega (arith, far)

      low_i : i < length ss
      low_i = omega (arith, far, low)

      low_j : j < length (strands_after first ss i)
      low_j = let is = after_is first ss (i - 1) i (omega (arith, above)) (omega (arith, far, low)) in omega (arith, is.long, low)

      low_i' : i < length (strands_after second ss j)
      low_i' = let is = after_is second ss (j - 1) j (omega (arith, far)) low in omega (arith, is.long, far, low)

      V : Key → E
      V = A.at_places c laws proper ss v

      both : (x : Path) → is_path c (strands_after second (strands_after first ss i) j) x ≡ true
          → acted c once (strands_after second once j) j (kernel_of c second) (acted c ss once i (kernel_of c first) v) x
          ≡ acted c other (strands_after second once j) i (kernel_of c first) (acted c ss other j (kernel_of c second) v) x
      both x path =
          let M = kernel_of c first in
          let N = kernel_of c second in
          let S = slice_index ss in
          let first_is = after_is first ss (i - 1) i at_i low_i in
          let second_is = after_is second ss (j - 1) j at_j low in
          let is = A.at_places_is c laws proper ss v in
          let strands = far_strands first second ss i j above far low in
          A.acted_by_place c laws proper N (A.kernel_off c laws proper second) once (strands_after second once j) (j - 1) j at_j low_j (after_is second once (j - 1) j at_j low_j)
          (acted c ss once i M v) (across c M S (i - 1) V)
          (A.acted_by_place c laws proper M (A.kernel_off c laws proper first) ss once (i - 1) i at_i low_i first_is v V is) x path
          ∙ (far_across M N S (slice_index once) (slice_index other) (slice_index x) (i - 1) (j - 1) V (omega (arith, above, far))
          (first_is.others (j - 1) (λ e. omega (arith, far, e)) (λ e. omega (arith, above, far, e)))
          (first_is.others ((j - 1) + 1) (λ e. omega (arith, far, e)) (λ e. omega (arith, above, far, e)))
          (second_is.others (i - 1) (λ e. omega (arith, above, far, e)) (λ e. omega (arith, above, far, e)))
          (second_is.others ((i - 1) + 1) (λ e. omega (arith, above, far, e)) (λ e. omega (arith, above, far, e)))
          ∙ (sym (A.acted_by_place c laws proper M (A.kernel_off c laws proper first) other (strands_after first other i) (i - 1) i at_i low_i' (after_is first other (i - 1) i at_i low_i')
          (acted c ss other j N v) (across c N S (j - 1) V)
          (A.acted_by_place c laws proper N (A.kernel_off c laws proper second) ss other (j - 1) j at_j low second_is v V is) x (ap (λ l. is_path c l x) (sym strands) ∙ path))
          ∙ (λ k. acted c other (sym strands k) i M (acted c ss other j N v) x)))

      vectors : acted c once (strands_after second once j) j (kernel_of c second) (acted c ss once i (kernel_of c first) v)
          ≡ acted c other (strands_after first other i) i (kernel_of c first) (acted c ss other j (kernel_of c second) v)
      vectors =
          same_after once other (strands_after second once j) j i (kernel_of c second) (kernel_of c first) (acted c ss once i (kernel_of c first) v) (acted c ss other j (kernel_of c second) v) both
          ∙ (λ k. acted c other (far_strands first second ss i j above far low k) i (kernel_of c first) (acted c ss other j (kernel_of c second) v))

  -- letters are such operators, or nothing
  pub far_letters : FarLettersCommute c
  far_letters ss v word first second above far low = by_operators (operator_on word first) (operator_on word second)
    where
      by_operators : (a b : Option Operator)
          → acted_by (comb_acts c) (gap_of second) b (acted_by (comb_acts c) (gap_of first) a (ss, v))
          ≡ acted_by (comb_acts c) (gap_of first) a (acted_by (comb_acts c) (gap_of second) b (ss, v))
      by_operators None b = refl
      by_operators (Some a) None = refl
      by_operators (Some a) (Some b) = far_operators ss v (gap_of first) (gap_of second) a b above far low
