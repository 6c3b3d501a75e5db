-- A braid and its inverse change nothing.
use Rattle.std.proofs.Common.{◌≡◌, ℕ, ◌+◌, ◌-◌, ◌<◌, Bool, true, false, List, length, refl, ap, sym, ◌∙◌, arith, inl, inr, slice_index}
use mathlib.Core.Path.{fun_ext}
use Rattle.std.specs.Prelude.{if◌then◌else◌, IsTrue}
use Rattle.std.proofs.lemmas.Bool.Decides.{eqb_tells}
use Rattle.std.proofs.lemmas.Grind.{same_number_lists}
use Rattle.ring_laws.specs.Ring.{Held, RingLaws}
use Rattle.ring_laws.proofs.SumLemmas as S
use Rattle.symbol_table.specs.AllLabels.{IsProper, HasEquations, IsWeighted}
use Rattle.symbol_table.specs.Symbols.{Symbols}
use Rattle.comb_laws.specs.Amplitudes.{path_amplitude}
use Rattle.comb_laws.specs.Operators.{Kernel, acted, braid_kernel, exchange_by, strands_after}
use Rattle.comb_laws.specs.Operators as C
use Rattle.comb_laws.specs.Paths.{Path, Vector, is_path}
use Rattle.comb_laws.specs.declared.operator.Operator.TheVariants.{Exchange}
use Rattle.program_text.specs.declared.plan.Sign.{Sign}
use Rattle.program_text.specs.declared.plan.Sign.TheVariants.{Plus, Minus}
use Rattle.tree_shapes.specs.Labelled.{Labelled, Strand, Joined, leaves}
use Rattle.tree_laws.specs.Operators.{braid_by, swapped}
use Rattle.tree_laws.specs.Trees.{put}
use Rattle.tree_laws.proofs.Keys.{Key, same_key}
use Rattle.path_laws.specs.Moves.{BraidsCancel, IsOver, OperatorsStayOver, StartsAreOver, StatesAreOver, opposite}
use Rattle.path_laws.proofs.ActLemmas as A
use Rattle.path_laws.proofs.ActLemmas.{after_is, length-swapped, swapped_is}
use Rattle.path_laws.proofs.ListWeights.{exchange_is}
use Rattle.path_laws.proofs.OneLabel.{r_undoes_s, s_undoes_r}
use Rattle.path_laws.proofs.OneLabel as L
use Rattle.path_laws.proofs.Across.{IsAt, across, across_put, none_put, put_own, swapped_first, swapped_second, swapped_off}

-- strands swapped and swapped back
swapped_again : (i : ℕ) (s : Key) → swapped i (swapped i s) ≡ s
swapped_again i s = same_key _ _ (λ g.
    elim (eqb_tells g i) [
      | inl first ↦ ap (swapped i (swapped i s)) first.1 ∙ (swapped_first i (swapped i s) ∙ (swapped_second i s ∙ ap s (sym first.1)))
      | inr a ↦ elim (eqb_tells g (i + 1)) [
        | inl second ↦ ap (swapped i (swapped i s)) second.1 ∙ (swapped_second i (swapped i s) ∙ (swapped_first i s ∙ ap s (sym second.1)))
        | inr b ↦ swapped_off i (swapped i s) g a.1 b.1 ∙ swapped_off i s g a.1 b.1
      ]
    ])

pub swapped_back : (ss : List ℕ) (k : ℕ) → 0 < k → k < length ss → C.swapped (C.swapped ss k) k ≡ ss
swapped_back ss k above low =
    let at : k ≡ (k - 1) + 1 = omega (arith, above) in
    let low' : k < length (C.swapped ss k) = omega (arith, length-swapped ss k, low) in
    let place : slice_index (C.swapped (C.swapped ss k) k) ≡ slice_index ss =
    swapped_is (C.swapped ss k) (k - 1) k at low' ∙ (ap (swapped (k - 1)) (swapped_is ss (k - 1) k at low) ∙ swapped_again (k - 1) (slice_index ss)) in
    same_number_lists _ _ (length-swapped (C.swapped ss k) k ∙ length-swapped ss k) (λ g _. ap (λ (s : Key). s g) place)

module _ {E : Type 0} (c : Symbols E) {K : Held E} (laws : RingLaws c.ring K) where
  abbrev o : E → E → E
  o = c.ring.product

  -- members on paths and zero elsewhere
  over_by : (ss : List ℕ) (term : Path → E) → ((x : Path) → IsTrue (c.ring.member (term x))) → IsOver c ss (λ x. if is_path c ss x then term x else c.ring.zero)
  over_by ss term is = record {
    members = λ x. either (is_path c ss x) (term x) (is x);
    off = λ x off. S.if_no _ (term x) c.ring.zero off;
  }
    where
      either : (b : Bool) (y : E) → IsTrue (c.ring.member y) → IsTrue (c.ring.member (if b then y else c.ring.zero))
      either true y m = m
      either false y m = laws.zero_is

  amplitude_is : (tree : Labelled) (x : ℕ → ℕ) (i : ℕ) → IsTrue (c.ring.member (path_amplitude c tree x i))
  amplitude_is (Strand a) x i = marked (c.fuse (x i) a (x (i + 1)))
    where
      marked : (b : Bool) → IsTrue (c.ring.member (if b then c.ring.one else c.ring.zero))
      marked true = laws.one_is
      marked false = laws.zero_is
  amplitude_is (Joined l r q) x i = laws.product_is _ _

  pub starts_are_over : StartsAreOver c
  starts_are_over tree = over_by (leaves tree) _ (λ x. amplitude_is tree (slice_index x) 0)

  pub states_are_over : StatesAreOver c
  states_are_over ss labelled entries = over_by ss _ (λ x. S.sum_over_is laws _ entries)

  pub operators_stay_over : OperatorsStayOver c
  operators_stay_over ss v k operator = over_by (strands_after operator ss k) _ (λ x. S.total_is laws c.count _)

  module _ (proper : IsProper c) (equations : HasEquations c) (weighted : IsWeighted c) where
    undoes : (sign : Sign) (a b q : ℕ) → c.fuse a b q ≡ true → o (exchange_by c (opposite sign) b a q) (exchange_by c sign a b q) ≡ c.ring.one
    undoes Plus a b q is = r_undoes_s c laws proper weighted a b q is
    undoes Minus a b q is = s_undoes_r c laws proper weighted a b q is

    -- by place, a braid at gap i + 1 goes over the label there
    cancelled_across : (sign : Sign) (strand x : Key) (i : ℕ) (V : Key → E) → IsAt c strand i V
        → across c (braid_kernel c (opposite sign)) (swapped i strand) i (across c (braid_kernel c sign) strand i V) x ≡ V x
    cancelled_across sign strand x i V is =
        S.total_same laws c.count _ _ (λ t _. λ j. o (braid_by c (exchange_by c (opposite sign)) (x i) (swapped_first i strand j) (swapped_second i strand j) (x (i + 2)) t (x (i + 1))) (across_put c (braid_kernel c sign) strand x i t V j))
        ∙ (L.cancelled c laws proper equations (exchange_by c sign) (exchange_by c (opposite sign)) (exchange_is c laws proper equations weighted sign) (exchange_is c laws proper equations weighted (opposite sign))
        (undoes sign) (x i) (strand i) (strand (i + 1)) (x (i + 2)) (λ t. V (put (i + 1) t x)) (λ t. is.members _) (none_put c strand i V is x) (x (i + 1))
        ∙ ap V (put_own (i + 1) x))

    pub braids_cancel : BraidsCancel c
    braids_cancel ss v k sign above low over m = (back m, vectors m)
      where
        mid : List ℕ
        mid = C.swapped ss k

        back : C.swapped (C.swapped ss k) k ≡ ss
        back = swapped_back ss k above low

        at : k ≡ (k - 1) + 1
        at = omega (arith, above)

        low' : k < length (C.swapped ss k)
        low' = omega (arith, length-swapped ss k, low)

        once : Vector E
        once = acted c ss mid k (braid_kernel c sign) v

        on : (x : Path) → is_path c ss x ≡ true → acted c mid ss k (braid_kernel c (opposite sign)) once x ≡ v x
        on x path =
            let i = k - 1 in
            let V = A.at_places c laws proper ss v in
            let is = A.at_places_is c laws proper ss v in
            let there : is_path c (C.swapped mid k) x ≡ true = ap (λ l. is_path c l x) back ∙ path in
            (λ j. acted c mid (sym back j) k (braid_kernel c (opposite sign)) once x)
            ∙ (A.acted_by_place c laws proper (braid_kernel c (opposite sign)) (A.kernel_off c laws proper (Exchange (opposite sign))) mid (C.swapped mid k) (k - 1) k at low' (after_is (Exchange (opposite sign)) mid (k - 1) k at low')
            once (across c (braid_kernel c sign) (slice_index ss) (k - 1) V)
            (A.acted_by_place c laws proper (braid_kernel c sign) (A.kernel_off c laws proper (Exchange sign)) ss mid (k - 1) k at low (after_is (Exchange sign) ss (k - 1) k at low) v V is) x there
            ∙ ((λ j. across c (braid_kernel c (opposite sign)) (swapped_is ss (k - 1) k at low j) (k - 1) (across c (braid_kernel c sign) (slice_index ss) (k - 1) V) (slice_index x))
            ∙ (cancelled_across sign (slice_index ss) (slice_index x) (k - 1) V (A.at_places_at c laws proper ss v (k - 1) k at low over.members)
            ∙ sym (is x path))))

        pick : (x : Path) (b : Bool) → is_path c ss x ≡ b → acted c mid ss k (braid_kernel c (opposite sign)) once x ≡ v x
        pick x true path = on x path
        pick x false off = S.if_no _ _ _ off ∙ sym (over.off x off)

        vectors : acted c mid (C.swapped mid k) k (braid_kernel c (opposite sign)) once ≡ v
        vectors = (λ j. acted c mid (back j) k (braid_kernel c (opposite sign)) once) ∙ fun_ext (λ x. pick x (is_path c ss x) refl)
