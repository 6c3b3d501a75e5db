-- Yang-Baxter at any gap, on every vector.
use Rattle.std.proofs.Common.{◌≡◌, ℕ, ◌+◌, ◌-◌, ◌<◌, false, true, List, length, refl, ap, ap₂, sym, ◌∙◌, arith, inl, inr, slice_index}
use Rattle.std.specs.Prelude.{IsTrue, ◌==◌}
use Rattle.std.proofs.lemmas.Bool.Decides.{eqb_tells}
use Rattle.std.proofs.lemmas.Grind.{same_number_lists}
use Rattle.ring_laws.specs.Ring.{Held, RingLaws}
use Rattle.ring_laws.specs.Sums.{total}
use Rattle.ring_laws.proofs.SumLemmas as S
use Rattle.symbol_table.specs.AllLabels.{IsProper, HasEquations, IsWeighted}
use Rattle.symbol_table.specs.Symbols.{Symbols}
use Rattle.comb_laws.specs.Operators.{Kernel, acted, braid_kernel, exchange_by}
use Rattle.comb_laws.specs.Operators as C
use Rattle.comb_laws.specs.Paths.{Path, Vector, is_path}
use Rattle.comb_laws.specs.declared.operator.Operator.TheVariants.{Exchange}
use Rattle.program_text.specs.declared.plan.Sign.{Sign}
use Rattle.tree_laws.specs.Operators.{braid_by, swapped}
use Rattle.tree_laws.specs.Trees.{put}
use Rattle.tree_laws.proofs.Keys.{Key, put_here, put_off, put_swap, put_again, same_key}
use Rattle.path_laws.specs.Moves.{YangBaxter}
use Rattle.path_laws.proofs.Across.{across, swapped_first, swapped_second, swapped_off}
use Rattle.path_laws.proofs.ActLemmas as A
use Rattle.path_laws.proofs.ActLemmas.{after_is, length-swapped, swapped_is}
use Rattle.path_laws.proofs.FarLemmas.{same_after}
use Rattle.path_laws.proofs.ListWeights.{acted_by_one, by_one, exchange_is}
use Rattle.path_laws.proofs.ThreeStrands as Y

-- three strands reversed in either order
reversed : (i : ℕ) (s : Key) → swapped i (swapped (i + 1) (swapped i s)) ≡ swapped (i + 1) (swapped i (swapped (i + 1) s))
reversed i s = same_key _ _ (λ g.
    elim (eqb_tells g i) [
      | inl e ↦ at g i e.1 (swapped_first i (swapped (i + 1) (swapped i s)) ∙ (swapped_first (i + 1) (swapped i s) ∙ swapped_off i s (i + 1 + 1) (λ e. omega arith) (λ e. omega arith)))
          (swapped_off (i + 1) (swapped i (swapped (i + 1) s)) i (λ e. omega arith) (λ e. omega arith) ∙ (swapped_first i (swapped (i + 1) s) ∙ swapped_first (i + 1) s))
      | inr a ↦ elim (eqb_tells g (i + 1)) [
        | inl e ↦ at g (i + 1) e.1 (swapped_second i (swapped (i + 1) (swapped i s)) ∙ (swapped_off (i + 1) (swapped i s) i (λ e. omega arith) (λ e. omega arith) ∙ swapped_first i s))
            (swapped_first (i + 1) (swapped i (swapped (i + 1) s)) ∙ (swapped_off i (swapped (i + 1) s) (i + 1 + 1) (λ e. omega arith) (λ e. omega arith) ∙ swapped_second (i + 1) s))
        | inr b ↦ elim (eqb_tells g (i + 1 + 1)) [
          | inl e ↦ at g (i + 1 + 1) e.1 (swapped_off i (swapped (i + 1) (swapped i s)) (i + 1 + 1) (λ e. omega arith) (λ e. omega arith) ∙ (swapped_second (i + 1) (swapped i s) ∙ swapped_second i s))
              (swapped_second (i + 1) (swapped i (swapped (i + 1) s)) ∙ (swapped_second i (swapped (i + 1) s) ∙ swapped_off (i + 1) s i (λ e. omega arith) (λ e. omega arith)))
          | inr d ↦
              swapped_off i (swapped (i + 1) (swapped i s)) g a.1 b.1 ∙ (swapped_off (i + 1) (swapped i s) g b.1 d.1 ∙ (swapped_off i s g a.1 b.1
              ∙ sym (swapped_off (i + 1) (swapped i (swapped (i + 1) s)) g b.1 d.1 ∙ (swapped_off i (swapped (i + 1) s) g a.1 b.1 ∙ swapped_off (i + 1) s g b.1 d.1))))
        ]
      ]
    ])
  where
    at : {x : ℕ} (g m : ℕ) → g ≡ m → swapped i (swapped (i + 1) (swapped i s)) m ≡ x → swapped (i + 1) (swapped i (swapped (i + 1) s)) m ≡ x
        → swapped i (swapped (i + 1) (swapped i s)) g ≡ swapped (i + 1) (swapped i (swapped (i + 1) s)) g
    at g m e left right = ap (swapped i (swapped (i + 1) (swapped i s))) e ∙ (left ∙ sym (ap (swapped (i + 1) (swapped i (swapped (i + 1) s))) e ∙ right))

-- the path with u and y at the two places after i
abbrev between : ℕ → Key → ℕ → ℕ → Key
between i x u y = put (i + 1) u (put (i + 1 + 1) y x)

between_off : (i : ℕ) (x : Key) (u y g : ℕ) → (g ≡ i + 1 → ⊥) → (g ≡ i + 1 + 1 → ⊥) → between i x u y g ≡ x g
between_off i x u y g a b = put_off (i + 1) u (put (i + 1 + 1) y x) g a ∙ put_off (i + 1 + 1) y x g b

between_own : (i : ℕ) (x : Key) → between i x (x (i + 1)) (x (i + 1 + 1)) ≡ x
between_own i x = same_key _ _ (λ g.
    elim (eqb_tells g (i + 1)) [
      | inl first ↦ S.if_yes (g == i + 1) _ _ first.0 ∙ ap x (sym first.1)
      | inr a ↦ elim (eqb_tells g (i + 1 + 1)) [
        | inl second ↦ put_off (i + 1) _ (put (i + 1 + 1) (x (i + 1 + 1)) x) g a.1 ∙ (S.if_yes (g == i + 1 + 1) _ _ second.0 ∙ ap x (sym second.1))
        | inr b ↦ between_off i x _ _ g a.1 b.1
      ]
    ])

module _ {E : Type 0} (c : Symbols E) {K : Held E} (laws : RingLaws c.ring K) (proper : IsProper c) (equations : HasEquations c) (weighted : IsWeighted c) (sign : Sign) where
  abbrev o : E → E → E
  o = c.ring.product

  -- the braid at gap i + 1, by place
  abbrev B : Key → ℕ → (Key → E) → Key → E
  B strand i V = across c (braid_kernel c sign) strand i V

  first_gap : (s x : Key) (i : ℕ) (V : Key → E) (u y : ℕ)
      → B s i V (between i x u y) ≡ total c.ring c.count (λ t. o (braid_by c (exchange_by c sign) (x i) (s i) (s (i + 1)) y t u) (V (between i x t y)))
  first_gap s x i V u y =
      let at_p : between i x u y i ≡ x i = between_off i x u y i (λ e. omega arith) (λ e. omega arith) in
      let at_y : between i x u y (i + 2) ≡ y = ap (between i x u y) (omega arith) ∙ (put_off (i + 1) u (put (i + 1 + 1) y x) (i + 1 + 1) (λ e. omega arith) ∙ put_here (i + 1 + 1) y x) in
      let at_u : between i x u y (i + 1) ≡ u = put_here (i + 1) u (put (i + 1 + 1) y x) in
      S.total_same laws c.count _ _ (λ t _.
      ap₂ o (λ j. braid_by c (exchange_by c sign) (at_p j) (s i) (s (i + 1)) (at_y j) t (at_u j)) (ap V (put_again (i + 1) t u (put (i + 1 + 1) y x))))

  second_gap : (s x : Key) (i : ℕ) (V : Key → E) (u y : ℕ)
      → B s (i + 1) V (between i x u y) ≡ total c.ring c.count (λ t. o (braid_by c (exchange_by c sign) u (s (i + 1)) (s (i + 1 + 1)) (x (i + 3)) t y) (V (between i x u t)))
  second_gap s x i V u y =
      let at_u : between i x u y (i + 1) ≡ u = put_here (i + 1) u (put (i + 1 + 1) y x) in
      let at_y : between i x u y (i + 1 + 1) ≡ y = put_off (i + 1) u (put (i + 1 + 1) y x) (i + 1 + 1) (λ e. omega arith) ∙ put_here (i + 1 + 1) y x in
      let at_z : between i x u y (i + 1 + 2) ≡ x (i + 3) = between_off i x u y (i + 1 + 2) (λ e. omega arith) (λ e. omega arith) ∙ ap x (omega arith) in
      let back = λ (t : ℕ). put_swap (i + 1 + 1) (i + 1) t u (put (i + 1 + 1) y x) (λ e. omega arith) ∙ ap (put (i + 1) u) (put_again (i + 1 + 1) t y x) in
      S.total_same laws c.count _ _ (λ t _.
      ap₂ o (λ j. braid_by c (exchange_by c sign) (at_u j) (s (i + 1)) (s (i + 1 + 1)) (at_z j) t (at_y j)) (ap V (back t)))

  abbrev one : ℕ → ℕ → ℕ → (ℕ → ℕ → E) → ℕ → ℕ → E
  one = Y.one c laws proper equations (exchange_by c sign) (exchange_is c laws proper equations weighted sign)

  abbrev two : ℕ → ℕ → ℕ → (ℕ → ℕ → E) → ℕ → ℕ → E
  two = Y.two c laws proper equations (exchange_by c sign) (exchange_is c laws proper equations weighted sign)

  -- a braid between two places, once the strands and what it is of are known there
  at_first : (s x : Key) (i : ℕ) (V : Key → E) (a b : ℕ) (W : ℕ → ℕ → E) → s i ≡ a → s (i + 1) ≡ b → ((u y : ℕ) → V (between i x u y) ≡ W u y)
      → (u y : ℕ) → B s i V (between i x u y) ≡ one (x i) a b W u y
  at_first s x i V a b W ea eb is u y =
      first_gap s x i V u y ∙ S.total_same laws c.count _ _ (λ t _. ap₂ o (λ j. braid_by c (exchange_by c sign) (x i) (ea j) (eb j) y t u) (is t y))

  at_second : (s x : Key) (i : ℕ) (V : Key → E) (a b : ℕ) (W : ℕ → ℕ → E) → s (i + 1) ≡ a → s (i + 1 + 1) ≡ b → ((u y : ℕ) → V (between i x u y) ≡ W u y)
      → (u y : ℕ) → B s (i + 1) V (between i x u y) ≡ two (x (i + 3)) a b W u y
  at_second s x i V a b W ea eb is u y =
      second_gap s x i V u y ∙ S.total_same laws c.count _ _ (λ t _. ap₂ o (λ j. braid_by c (exchange_by c sign) u (ea j) (eb j) (x (i + 3)) t y) (is u t))

  -- at any gap, on a vector by place that is zero off paths there
  across_either : (s x : Key) (i : ℕ) (V : Key → E) → ((y : Key) → IsTrue (c.ring.member (V y)))
      → ((y : Key) (k : ℕ) → k < i + 3 → c.fuse (y k) (s k) (y (k + 1)) ≡ false → V y ≡ c.ring.zero)
      → B (swapped (i + 1) (swapped i s)) i (B (swapped i s) (i + 1) (B s i V)) x
      ≡ B (swapped i (swapped (i + 1) s)) (i + 1) (B (swapped (i + 1) s) i (B s (i + 1) V)) x
  across_either s x i V member none =
      let a = s i in
      let b = s (i + 1) in
      let m = s (i + 1 + 1) in
      let w : ℕ → ℕ → E = λ u y. V (between i x u y) in
      let off_i = λ (s : Key). swapped_off (i + 1) s i (λ e. omega arith) (λ e. omega arith) in
      let off_end = λ (s : Key). swapped_off i s (i + 1 + 1) (λ e. omega arith) (λ e. omega arith) in
      let left = at_first (swapped (i + 1) (swapped i s)) x i (B (swapped i s) (i + 1) (B s i V)) b m _ (off_i (swapped i s) ∙ swapped_first i s) (swapped_first (i + 1) (swapped i s) ∙ off_end s)
      (at_second (swapped i s) x i (B s i V) a m _ (swapped_second i s) (off_end s)
      (at_first s x i V a b w refl refl (λ u y. refl))) in
      let right = at_second (swapped i (swapped (i + 1) s)) x i (B (swapped (i + 1) s) i (B s (i + 1) V)) a b _ (swapped_second i (swapped (i + 1) s) ∙ off_i s) (off_end (swapped (i + 1) s) ∙ swapped_second (i + 1) s)
      (at_first (swapped (i + 1) s) x i (B s (i + 1) V) a m _ (off_i s) (swapped_first (i + 1) s)
      (at_second s x i V b m w refl refl (λ u y. refl))) in
      ap (B (swapped (i + 1) (swapped i s)) i (B (swapped i s) (i + 1) (B s i V))) (sym (between_own i x))
      ∙ (left (x (i + 1)) (x (i + 1 + 1))
      ∙ (Y.either_order c laws proper equations (exchange_by c sign) (exchange_is c laws proper equations weighted sign) (x i) (x (i + 3)) a b m w (λ u y. member _)
      (λ u y h. none (between i x u y) i (omega arith) (ap₂ (λ p q. c.fuse p a q) (at_i u y) (at_u u y) ∙ h))
      (λ u y h. none (between i x u y) (i + 1) (omega arith) (ap₂ (λ p q. c.fuse p b q) (at_u u y) (at_y u y) ∙ h))
      (λ u y h. none (between i x u y) (i + 1 + 1) (omega arith) (ap₂ (λ p q. c.fuse p m q) (at_y u y) (at_z u y) ∙ h))
      (x (i + 1)) (x (i + 1 + 1))
      ∙ (sym (right (x (i + 1)) (x (i + 1 + 1)))
      ∙ ap (B (swapped i (swapped (i + 1) s)) (i + 1) (B (swapped (i + 1) s) i (B s (i + 1) V))) (between_own i x))))
    where
      at_i : (u y : ℕ) → between i x u y i ≡ x i
      at_i u y = between_off i x u y i (λ e. omega arith) (λ e. omega arith)

      at_u : (u y : ℕ) → between i x u y (i + 1) ≡ u
      at_u u y = put_here (i + 1) u (put (i + 1 + 1) y x)

      at_y : (u y : ℕ) → between i x u y (i + 1 + 1) ≡ y
      at_y u y = put_off (i + 1) u (put (i + 1 + 1) y x) (i + 1 + 1) (λ e. omega arith) ∙ put_here (i + 1 + 1) y x

      at_z : (u y : ℕ) → between i x u y (i + 1 + 1 + 1) ≡ x (i + 3)
      at_z u y = between_off i x u y (i + 1 + 1 + 1) (λ e. omega arith) (λ e. omega arith) ∙ ap x (omega arith)

  -- the braid at a gap, on lists
  abbrev braid : List ℕ → ℕ → Vector E → Vector E
  braid ss k v = acted c ss (C.swapped ss k) k (braid_kernel c sign) v

  abbrev IsByPlace : List ℕ → Vector E → (Key → E) → Type 0
  IsByPlace = A.IsByPlace c laws proper

  -- it is that of the vector by place
  step : (ss : List ℕ) (i k : ℕ) → k ≡ i + 1 → k < length ss → (v : Vector E) (V : Key → E) → IsByPlace ss v V → IsByPlace (C.swapped ss k) (braid ss k v) (B (slice_index ss) i V)
  step ss i k at low v V is =
      A.acted_by_place c laws proper (braid_kernel c sign) (A.kernel_off c laws proper (Exchange sign)) ss (C.swapped ss k) i k at low (after_is (Exchange sign) ss i k at low) v V is

  -- three of them, at two gaps in turn
  three_steps : (ss : List ℕ) (i j k m : ℕ) → k ≡ i + 1 → m ≡ j + 1 → k < length ss → m < length ss → (v : Vector E) (V : Key → E) → IsByPlace ss v V
      → IsByPlace (C.swapped (C.swapped (C.swapped ss k) m) k) (braid (C.swapped (C.swapped ss k) m) k (braid (C.swapped ss k) m (braid ss k v)))
      (B (swapped j (swapped i (slice_index ss))) i (B (swapped i (slice_index ss)) j (B (slice_index ss) i V)))
  three_steps ss i j k m at_k at_m low_k low_m v V is x path =
      let once = C.swapped ss k in
      let twice = C.swapped (C.swapped ss k) m in
      let S = slice_index ss in
      let low_once : m < length (C.swapped ss k) = omega (arith, low_m, length-swapped ss k) in
      let low_twice : k < length (C.swapped (C.swapped ss k) m) = omega (arith, low_k, length-swapped ss k, length-swapped (C.swapped ss k) m) in
      let first = swapped_is ss i k at_k low_k in
      let second = swapped_is once j m at_m low_once ∙ ap (swapped j) first in
      step twice i k at_k low_twice (braid once m (braid ss k v)) (B (slice_index once) j (B S i V))
      (step once j m at_m low_once (braid ss k v) (B S i V) (step ss i k at_k low_k v V is)) x path
      ∙ (λ n. B (second n) i (B (first n) j (B S i V)) (slice_index x))

-- the strands after three, at two gaps in turn
three_strands : (ss : List ℕ) (i j k m : ℕ) → k ≡ i + 1 → m ≡ j + 1 → k < length ss → m < length ss
    → slice_index (C.swapped (C.swapped (C.swapped ss k) m) k) ≡ swapped i (swapped j (swapped i (slice_index ss)))
three_strands ss i j k m at_k at_m low_k low_m =
    let once = C.swapped ss k in
    let twice = C.swapped (C.swapped ss k) m in
    let low_once : m < length (C.swapped ss k) = omega (arith, low_m, length-swapped ss k) in
    let low_twice : k < length (C.swapped (C.swapped ss k) m) = omega (arith, low_k, length-swapped ss k, length-swapped (C.swapped ss k) m) in
    swapped_is twice i k at_k low_twice ∙ ap (swapped i) (swapped_is once j m at_m low_once ∙ ap (swapped j) (swapped_is ss i k at_k low_k))

three_long : (ss : List ℕ) (k m : ℕ) → length (C.swapped (C.swapped (C.swapped ss k) m) k) ≡ length ss
three_long ss k m = length-swapped (C.swapped (C.swapped ss k) m) k ∙ (length-swapped (C.swapped ss k) m ∙ length-swapped ss k)

module _ {E : Type 0} (c : Symbols E) {K : Held E} (laws : RingLaws c.ring K) (proper : IsProper c) (equations : HasEquations c) (weighted : IsWeighted c) where
  pub yang_baxter : YangBaxter c
  yang_baxter ss v k sign above low m = (strands m, vectors m)
    where
      at : k ≡ (k - 1) + 1
      at = omega (arith, above)

      next : k + 1 ≡ ((k - 1) + 1) + 1
      next = omega (arith, above)

      within : k < length ss
      within = omega (arith, low)

      strands : C.swapped (C.swapped (C.swapped ss k) (k + 1)) k ≡ C.swapped (C.swapped (C.swapped ss (k + 1)) k) (k + 1)
      strands =
          let place = three_strands ss (k - 1) ((k - 1) + 1) k (k + 1) at next within low
          ∙ (reversed (k - 1) (slice_index ss) ∙ sym (three_strands ss ((k - 1) + 1) (k - 1) (k + 1) k next at low within)) in
          same_number_lists _ _ (three_long ss k (k + 1) ∙ sym (three_long ss (k + 1) k)) (λ g _. ap (λ (s : Key). s g) place)

      M : Kernel E
      M = braid_kernel c sign

      left : Vector E → Vector E
      left v = acted c (C.swapped ss k) (C.swapped (C.swapped ss k) (k + 1)) (k + 1) (braid_kernel c sign) (acted c ss (C.swapped ss k) k (braid_kernel c sign) v)

      right : Vector E → Vector E
      right v = acted c (C.swapped ss (k + 1)) (C.swapped (C.swapped ss (k + 1)) k) k (braid_kernel c sign) (acted c ss (C.swapped ss (k + 1)) (k + 1) (braid_kernel c sign) v)

      same : (x : Path) → is_path c (C.swapped (C.swapped (C.swapped ss k) (k + 1)) k) x ≡ true
          → acted c (C.swapped (C.swapped ss k) (k + 1)) (C.swapped (C.swapped (C.swapped ss k) (k + 1)) k) k M (left (by_one c laws v)) x
          ≡ acted c (C.swapped (C.swapped ss (k + 1)) k) (C.swapped (C.swapped (C.swapped ss k) (k + 1)) k) (k + 1) M (right (by_one c laws v)) x
      same x path =
          let S = slice_index ss in
          let w = by_one c laws v in
          let V = A.at_places c laws proper ss (by_one c laws v) in
          let is = A.at_places_is c laws proper ss (by_one c laws v) in
          three_steps c laws proper equations weighted sign ss (k - 1) ((k - 1) + 1) k (k + 1) at next within low w V is x path
          ∙ (across_either c laws proper equations weighted sign S (slice_index x) (k - 1) V
          (A.at_places_member c laws proper ss w (λ x. laws.product_is _ _))
          (λ y g below. A.at_places_off c laws proper ss w y g (omega (arith, below, above, low)))
          ∙ (sym (three_steps c laws proper equations weighted sign ss ((k - 1) + 1) (k - 1) (k + 1) k next at low within w V is x (ap (λ l. is_path c l x) (sym strands) ∙ path))
          ∙ (λ j. acted c (C.swapped (C.swapped ss (k + 1)) k) (sym strands j) (k + 1) M (right w) x)))

      vectors : acted c (C.swapped (C.swapped ss k) (k + 1)) (C.swapped (C.swapped (C.swapped ss k) (k + 1)) k) k M (left v)
          ≡ acted c (C.swapped (C.swapped ss (k + 1)) k) (C.swapped (C.swapped (C.swapped ss (k + 1)) k) (k + 1)) (k + 1) M (right v)
      vectors =
          (λ j. acted c (C.swapped (C.swapped ss k) (k + 1)) (C.swapped (C.swapped (C.swapped ss k) (k + 1)) k) k M
          (acted c (C.swapped ss k) (C.swapped (C.swapped ss k) (k + 1)) (k + 1) M (sym (acted_by_one c laws ss (C.swapped ss k) k M v) j)))
          ∙ (same_after c laws proper (C.swapped (C.swapped ss k) (k + 1)) (C.swapped (C.swapped ss (k + 1)) k) (C.swapped (C.swapped (C.swapped ss k) (k + 1)) k) k (k + 1) M M (left (by_one c laws v)) (right (by_one c laws v)) same
          ∙ (λ j. acted c (C.swapped (C.swapped ss (k + 1)) k) (strands j) (k + 1) M
          (acted c (C.swapped ss (k + 1)) (C.swapped (C.swapped ss (k + 1)) k) k M (acted_by_one c laws ss (C.swapped ss (k + 1)) (k + 1) M v j))))
