-- An operator on vectors over lists is one on vectors by place.
use Rattle.std.proofs.Common.{◌≡◌, ℕ, zero, suc, ◌+◌, ◌-◌, ◌<◌, Bool, true, false, List, [], ◌∷◌, length, length-set, get_or, set, get_or-set_same, get_or-set_other, refl, ap, sym, ◌∙◌, arith, inl, inr, slice_index}
use Rattle.std.specs.Prelude.{if◌then◌else◌, ◌==◌, nat_lt, IsTrue}
use Rattle.std.proofs.lemmas.Bool.Decides.{eqb_tells, nat_tests}
use Rattle.ring_laws.specs.Ring.{Held, RingLaws}
use Rattle.ring_laws.specs.Sums.{total}
use Rattle.ring_laws.proofs.SumLemmas as S
use Rattle.symbol_table.specs.AllLabels.{IsProper, goes_left}
use Rattle.symbol_table.specs.Symbols.{Symbols}
use Rattle.comb_laws.specs.Operators.{Kernel, acted, braid_kernel, kernel_of, strands_after, term_at}
use Rattle.comb_laws.specs.Operators as C
use Rattle.comb_laws.specs.Paths.{Path, Vector, goes_on, is_path}
use Rattle.comb_laws.specs.declared.operator.Operator.{Operator}
use Rattle.comb_laws.specs.declared.operator.Operator.TheVariants.{Exchange, Project}
use Rattle.comb_laws.proofs.PathFacts.{and_true}
use Rattle.tree_laws.specs.Entries.{listed}
use Rattle.tree_laws.specs.Operators.{swapped}
use Rattle.tree_laws.specs.Trees.{put}
use Rattle.tree_laws.proofs.EntryLemmas.{at_listed}
use Rattle.tree_laws.proofs.Equations as Q
use Rattle.tree_laws.proofs.Keys.{Key, put_here, put_off, put_swap, same_key}
use Rattle.path_laws.proofs.Across.{IsAt, across, swapped_off}
use Rattle.path_laws.proofs.PlaceLemmas.{listed_again, path_long}

-- a path by its places: the unit first, and each label occurs in the one before times its strand
pub record GoesAt {E : Type 0} (c : Symbols E) (ss : List ℕ) (x : Path) : Type 0 where
  pub long : length x ≡ length ss + 1
  pub unit : slice_index x 0 ≡ 0
  pub fuses : (j : ℕ) → j < length ss → c.fuse (slice_index x j) (slice_index ss j) (slice_index x (j + 1)) ≡ true

goes_fuses : {E : Type 0} (c : Symbols E) (p : ℕ) (ss xs : List ℕ) → goes_on c p ss xs ≡ true → (j : ℕ) → j < length ss → c.fuse (get_or (p ∷ xs) j 0) (get_or ss j 0) (get_or xs j 0) ≡ true
goes_fuses c p [] xs is j low = absurd (omega arith)
goes_fuses c p (s ∷ ss) [] is j low = absurd (cc)
goes_fuses c p (s ∷ ss) (x ∷ xs) is zero low = (and_true (c.fuse p s x) (goes_on c x ss xs) (and_true (nat_lt x c.count) _ is).1).0
goes_fuses c p (s ∷ ss) (x ∷ xs) is (suc j) low =
    goes_fuses c x ss xs (and_true (c.fuse p s x) (goes_on c x ss xs) (and_true (nat_lt x c.count) _ is).1).1 j (omega arith)

pub path_goes : {E : Type 0} (c : Symbols E) (ss : List ℕ) (x : Path) → is_path c ss x ≡ true → GoesAt c ss x
path_goes c ss [] is = absurd (cc)
path_goes c ss (x ∷ xs) is =
    let parts = and_true (x == 0) (goes_on c 0 ss xs) is in
    let unit : x ≡ 0 = grind (arith, nat_tests) in
    record {
      long = path_long c ss (x ∷ xs) is;
      unit = unit;
      fuses = λ j low.
          let up : j + 1 ≡ suc j = omega arith in
          (λ i. c.fuse (get_or (unit i ∷ xs) j 0) (get_or ss j 0) (get_or (x ∷ xs) (up i) 0)) ∙ goes_fuses c 0 ss xs parts.1 j low;
    }

-- a list with another label at a place, by place
pub set_is : (xs : List ℕ) (k t : ℕ) → k < length xs → slice_index (set xs k t) ≡ put k t (slice_index xs)
set_is xs k t below = same_key _ _ (λ g.
    elim (eqb_tells g k) [
      | inl e ↦ ap (slice_index (set xs k t)) e.1 ∙ (get_or-set_same xs k t 0 below ∙ sym (ap (put k t (slice_index xs)) e.1 ∙ put_here k t (slice_index xs)))
      | inr n ↦ get_or-set_other xs k g t 0 n.1 ∙ sym (put_off k t (slice_index xs) g n.1)
    ])

-- strands of a list swapped, by place
pub swapped_is : (ss : List ℕ) (i k : ℕ) → k ≡ i + 1 → k < length ss → slice_index (C.swapped ss k) ≡ swapped i (slice_index ss)
swapped_is ss i k at low =
    let S = slice_index ss in
    let back : k - 1 ≡ i = omega (arith, at) in
    let same : (k + 1) - 1 ≡ i + 1 = omega (arith, at) in
    let once = set ss (k - 1) (slice_index ss ((k + 1) - 1)) in
    set_is once k (slice_index ss (k - 1)) (omega (arith, length-set ss (k - 1) (slice_index ss ((k + 1) - 1)), low))
    ∙ (ap (put k (slice_index ss (k - 1))) (set_is ss (k - 1) (slice_index ss ((k + 1) - 1)) (omega (arith, low)))
    ∙ ((λ j. put (at j) (S (back j)) (put (back j) (S (same j)) S))
    ∙ put_swap (i + 1) i (S i) (S (i + 1)) S (λ e. omega arith)))

pub length-swapped : (ss : List ℕ) (k : ℕ) → length (C.swapped ss k) ≡ length ss
length-swapped ss k =
    length-set (set ss (k - 1) (slice_index ss ((k + 1) - 1))) k (slice_index ss (k - 1)) ∙ length-set ss (k - 1) (slice_index ss ((k + 1) - 1))

-- the strands after an operator at gap i + 1: as many, and the same but on both sides of the gap
pub record After (ss after : List ℕ) (i : ℕ) : Type 0 where
  pub long : length after ≡ length ss
  pub others : (g : ℕ) → (g ≡ i → ⊥) → (g ≡ i + 1 → ⊥) → slice_index after g ≡ slice_index ss g

-- the strands after an operator, by place
abbrev pub moved : Operator → ℕ → Key → Key
moved (Exchange sign) i strand = swapped i strand
moved (Project q) i strand = strand

pub moved_is : (operator : Operator) (ss : List ℕ) (i k : ℕ) → k ≡ i + 1 → k < length ss → slice_index (strands_after operator ss k) ≡ moved operator i (slice_index ss)
moved_is (Exchange sign) ss i k at low = swapped_is ss i k at low
moved_is (Project q) ss i k at low = refl

pub after_is : (operator : Operator) (ss : List ℕ) (i k : ℕ) → k ≡ i + 1 → k < length ss → After ss (strands_after operator ss k) i
after_is (Exchange sign) ss i k at low = record {
  long = length-swapped ss k;
  others = λ g a b. ap (λ (s : Key). s g) (swapped_is ss i k at low) ∙ swapped_off i (slice_index ss) g a b;
}
after_is (Project q) ss i k at low = record { long = refl; others = λ g a b. refl }

module _ {E : Type 0} (c : Symbols E) {K : Held E} (laws : RingLaws c.ring K) (proper : IsProper c) where
  abbrev o : E → E → E
  o = c.ring.product

  goes_from : (p : ℕ) (ss xs : List ℕ) → length xs ≡ length ss → ((j : ℕ) → j < length ss → c.fuse (get_or (p ∷ xs) j 0) (get_or ss j 0) (get_or xs j 0) ≡ true) → goes_on c p ss xs ≡ true
  goes_from p [] [] long fuses = refl
  goes_from p [] (x ∷ xs) long fuses = absurd (omega (arith, long))
  goes_from p (s ∷ ss) [] long fuses = absurd (omega (arith, long))
  goes_from p (s ∷ ss) (x ∷ xs) long fuses =
      let first : c.fuse p s x ≡ true = fuses 0 (omega arith) in
      S.and_yes _ _ (less x c.count (proper.labels p s x first).2) (S.and_yes _ _ first (goes_from x ss xs (omega (arith, long)) (λ j low. fuses (suc j) (omega (arith, low)))))
    where
      less : (t n : ℕ) → t < n → nat_lt t n ≡ true
      less t n h = grind (arith, nat_tests)

  pub path_from : (ss : List ℕ) (x : Path) → GoesAt c ss x → is_path c ss x ≡ true
  path_from ss [] g = absurd (omega (arith, g.long))
  path_from ss (x ∷ xs) g =
      S.and_yes _ _ (S.test_true x 0 g.unit)
      (goes_from 0 ss xs (omega (arith, g.long)) (λ j low.
      let up : suc j ≡ j + 1 = omega arith in
      (λ i. c.fuse (get_or (sym g.unit i ∷ xs) j 0) (get_or ss j 0) (get_or (x ∷ xs) (up i) 0)) ∙ g.fuses j low))

  -- a label between two strands, which fuses on both sides, makes a path over the strands before of one after
  path_set : (ss after : List ℕ) (i k t : ℕ) (x : Path) → k ≡ i + 1 → k < length ss → After ss after i → is_path c after x ≡ true
      → goes_left c (slice_index x i) (slice_index ss i) (slice_index ss (i + 1)) (slice_index x (i + 2)) t ≡ true → is_path c ss (set x k t) ≡ true
  path_set ss after i k t x at low same is on =
      let g = path_goes c after x is in
      let X = slice_index x in
      let S = slice_index ss in
      let reach : k < length x = omega (arith, g.long, same.long, low) in
      let by_place = λ (m : ℕ). ap (λ (z : Key). z m) (set_is x k t reach) in
      let long : length (set x k t) ≡ length ss + 1 = length-set x k t ∙ omega (arith, g.long, same.long) in
      path_from ss (set x k t) (record {
        long = long;
        unit = by_place 0 ∙ (put_off k t X 0 (λ e. omega (arith, e, at)) ∙ g.unit);
        fuses = λ j within.
            (λ m. c.fuse (by_place j m) (S j) (by_place (j + 1) m))
            ∙ elim (eqb_tells j i) [
              | inl first ↦
                  let here : j + 1 ≡ k = omega (arith, first.1, at) in
                  let before : put k t X j ≡ X i = put_off k t X j (λ e. omega (arith, e, first.1, at)) ∙ ap X first.1 in
                  let at_k : put k t X (j + 1) ≡ t = ap (put k t X) here ∙ put_here k t X in
                  (λ m. c.fuse (before m) (S (first.1 m)) (at_k m)) ∙ (and_true (c.fuse (X i) (S i) t) _ on).0
              | inr off ↦ elim (eqb_tells j (i + 1)) [
                | inl second ↦
                    let here : j ≡ k = second.1 ∙ sym at in
                    let next : j + 1 ≡ i + 2 = omega (arith, second.1) in
                    let at_k : put k t X j ≡ t = ap (put k t X) here ∙ put_here k t X in
                    let beyond : put k t X (j + 1) ≡ X (i + 2) = put_off k t X (j + 1) (λ e. omega (arith, e, here)) ∙ ap X next in
                    (λ m. c.fuse (at_k m) (S (second.1 m)) (beyond m)) ∙ (and_true (c.fuse (X i) (S i) t) _ on).1
                | inr off' ↦
                    let before : put k t X j ≡ X j = put_off k t X j (λ e. off'.1 (e ∙ at)) in
                    let beyond : put k t X (j + 1) ≡ X (j + 1) = put_off k t X (j + 1) (λ e. off.1 (omega (arith, e, at))) in
                    (λ m. c.fuse (before m) (sym (same.others j off.1 off'.1) m) (beyond m)) ∙ g.fuses j (omega (arith, within, same.long))
              ]
            ];
      })

  -- a vector is this one by place
  abbrev pub IsByPlace : List ℕ → Vector E → (Key → E) → Type 0
  IsByPlace ss v V = (x : Path) → is_path c ss x ≡ true → v x ≡ V (slice_index x)

  -- zero from a label that makes no path
  abbrev pub IsOff : Kernel E → Type 0
  IsOff kernel = (p a b y t u : ℕ) → goes_left c p a b y t ≡ false → kernel p a b y t u ≡ c.ring.zero

  pub kernel_off : (operator : Operator) → IsOff (kernel_of c operator)
  kernel_off operator p a b y t u off = by_operator operator
    where
      f_off : (q : ℕ) → c.f p a b y t q ≡ c.ring.zero
      f_off q = elim (Q.either_off (c.fuse p a t) (c.fuse t b y) off) [ inl v ↦ Q.f_gone c laws proper p a b y t q _ v (λ h. h.abe) | inr v ↦ Q.f_gone c laws proper p a b y t q _ v (λ h. h.emd) ]

      by_operator : (operator : Operator) → kernel_of c operator p a b y t u ≡ c.ring.zero
      by_operator (Exchange sign) = S.total_none laws c.count _ (λ q _. Q.left_none c laws proper _ _ (Q.left_none c laws proper _ _ (f_off q)))
      by_operator (Project q) = Q.left_none c laws proper _ _ (f_off q)

  -- An operator on a vector is that on the vector by place.
  pub acted_by_place : (kernel : Kernel E) → IsOff kernel → (ss after : List ℕ) (i k : ℕ) → k ≡ i + 1 → k < length ss → After ss after i
      → (v : Vector E) (V : Key → E) → IsByPlace ss v V → IsByPlace after (acted c ss after k kernel v) (across c kernel (slice_index ss) i V)
  acted_by_place kernel off ss after i k at low same v V is x path =
      S.if_yes _ _ c.ring.zero path
      ∙ (S.total_same laws c.count _ _ (λ t _. term t)
      ∙ (λ j. total c.ring c.count (λ t. o (kernel (X (e1 j)) (strand (e1 j)) (strand (e2 j)) (X (e3 j)) t (X (at j))) (V (put (at j) t X)))))
    where
      X : Key
      X = slice_index x

      strand : Key
      strand = slice_index ss

      e1 : k - 1 ≡ i
      e1 = omega (arith, at)

      e2 : (k + 1) - 1 ≡ i + 1
      e2 = omega (arith, at)

      e3 : k + 1 ≡ i + 2
      e3 = omega (arith, at)

      term : (t : ℕ) → term_at c ss k kernel v x t ≡ o (kernel (X (k - 1)) (strand (k - 1)) (strand ((k + 1) - 1)) (X (k + 1)) t (X k)) (V (put k t X))
      term t =
          elim (S.true_or_false (goes_left c (X i) (strand i) (strand (i + 1)) (X (i + 2)) t)) [
            | inl on ↦
                ap (o _) (is (set x k t) (path_set ss after i k t x at low same path on) ∙ ap V (set_is x k t (omega (arith, path_long c after x path, same.long, low))))
            | inr none ↦
                let gone : kernel (X (k - 1)) (strand (k - 1)) (strand ((k + 1) - 1)) (X (k + 1)) t (X k) ≡ c.ring.zero =
                off _ _ _ _ t _ ((λ j. goes_left c (X (e1 j)) (strand (e1 j)) (strand (e2 j)) (X (e3 j)) t) ∙ none) in
                Q.left_none c laws proper _ _ gone ∙ sym (Q.left_none c laws proper _ _ gone)
          ]

  -- the vector by place that is zero off paths
  abbrev pub at_places : List ℕ → Vector E → Key → E
  at_places ss v x = if is_path c ss (listed 0 (length ss + 1) x) then v (listed 0 (length ss + 1) x) else c.ring.zero

  pub at_places_is : (ss : List ℕ) (v : Vector E) → IsByPlace ss v (at_places ss v)
  at_places_is ss v x path =
      sym (ap (λ l. if is_path c ss l then v l else c.ring.zero) (listed_again (length ss + 1) x (path_long c ss x path)) ∙ S.if_yes _ _ c.ring.zero path)

  pub at_places_member : (ss : List ℕ) (v : Vector E) → ((x : Path) → IsTrue (c.ring.member (v x))) → (x : Key) → IsTrue (c.ring.member (at_places ss v x))
  at_places_member ss v is x = either (is_path c ss (listed 0 (length ss + 1) x)) _ (is _)
    where
      either : (b : Bool) (y : E) → IsTrue (c.ring.member y) → IsTrue (c.ring.member (if b then y else c.ring.zero))
      either true y m = m
      either false y m = laws.zero_is

  -- where labels don't fuse, nothing stands
  pub at_places_off : (ss : List ℕ) (v : Vector E) (x : Key) (j : ℕ) → j < length ss → c.fuse (x j) (slice_index ss j) (x (j + 1)) ≡ false → at_places ss v x ≡ c.ring.zero
  at_places_off ss v x j low off =
      elim (S.true_or_false (is_path c ss (listed 0 (length ss + 1) x))) [
        | inl is ↦
            let g = path_goes c ss (listed 0 (length ss + 1) x) is in
            let zero_j : 0 + j ≡ j = omega arith in
            let zero_next : 0 + (j + 1) ≡ j + 1 = omega arith in
            let first : get_or (listed 0 (length ss + 1) x) j 0 ≡ x j = at_listed 0 (length ss + 1) x j (omega arith) ∙ ap x zero_j in
            let second : get_or (listed 0 (length ss + 1) x) (j + 1) 0 ≡ x (j + 1) = at_listed 0 (length ss + 1) x (j + 1) (omega arith) ∙ ap x zero_next in
            absurd (Q.clash _ off ((λ m. c.fuse (sym first m) (slice_index ss j) (sym second m)) ∙ g.fuses j low))
        | inr no' ↦ S.if_no _ (v (listed 0 (length ss + 1) x)) _ no'
      ]

  -- it is zero where the label at a gap makes no path
  pub at_places_at : (ss : List ℕ) (v : Vector E) (i k : ℕ) → k ≡ i + 1 → k < length ss → ((x : Path) → IsTrue (c.ring.member (v x))) → IsAt c (slice_index ss) i (at_places ss v)
  at_places_at ss v i k at low is = record {
    members = at_places_member ss v is;
    off = λ x off. elim (Q.either_off (c.fuse (x i) (slice_index ss i) (x (i + 1))) (c.fuse (x (i + 1)) (slice_index ss (i + 1)) (x (i + 2))) off) [
      | inl first ↦ at_places_off ss v x i (omega (arith, at, low)) first
      | inr second ↦
          let next : i + 2 ≡ (i + 1) + 1 = omega arith in
          at_places_off ss v x (i + 1) (omega (arith, at, low)) ((λ j. c.fuse (x (i + 1)) (slice_index ss (i + 1)) (x (sym next j))) ∙ second)
    ];
  }
