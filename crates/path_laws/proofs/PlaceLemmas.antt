-- A sum over all paths is the sum over all labels at their places, and so is a weight.
use Rattle.std.proofs.Common.{◌≡◌, ℕ, zero, suc, ◌+◌, ◌<◌, ◌≤◌, Bool, true, false, List, [], ◌∷◌, ◌++◌, map, length, get_or, refl, ap, ap₂, sym, ◌∙◌, arith, inl, inr, slice_index}
use Rattle.std.specs.Prelude.{if◌then◌else◌, ◌&&◌, ◌==◌, nat_lt, IsTrue}
use Rattle.std.specs.List.{flat_map}
use Rattle.std.proofs.lemmas.Bool.Decides.{nat_tests}
use Rattle.std.proofs.lemmas.Grind.{flat_map-append, same_number_lists}
use Rattle.ring_laws.specs.Ring.{Held, RingLaws}
use Rattle.ring_laws.specs.Sums.{total, sum_over}
use Rattle.ring_laws.proofs.SumLemmas as S
use Rattle.symbol_table.specs.AllLabels.{IsProper}
use Rattle.symbol_table.specs.Symbols.{Symbols}
use Rattle.comb_laws.specs.Operators as C
use Rattle.comb_laws.specs.Paths.{Path, Vector, goes_on, is_path, labels, ways, paths}
use Rattle.comb_laws.proofs.PathFacts.{and_true, goes_long}
use Rattle.tree_laws.specs.Entries.{listed}
use Rattle.tree_laws.specs.Trees.{put, at_gap, at_gaps}
use Rattle.tree_laws.specs.Weights.{along}
use Rattle.tree_laws.specs.Weights as T
use Rattle.tree_laws.proofs.EntryLemmas.{length-listed, at_listed}
use Rattle.tree_laws.proofs.Equations as Q
use Rattle.tree_laws.proofs.Keys.{Key, put_here, put_off, same_key}

-- the labels of a list put at the places after i
abbrev pub placed : ℕ → List ℕ → Key → Key
placed i [] x = x
placed i (t ∷ ts) x = placed (i + 1) ts (put (i + 1) t x)

placed_before : (i : ℕ) (ts : List ℕ) (x : Key) (g : ℕ) → g ≤ i → placed i ts x g ≡ x g
placed_before i [] x g low = refl
placed_before i (t ∷ ts) x g low = placed_before (i + 1) ts (put (i + 1) t x) g (omega arith) ∙ put_off (i + 1) t x g (λ e. omega arith)

placed_after : (i : ℕ) (ts : List ℕ) (x : Key) (j : ℕ) → ((g : ℕ) → i < g → x g ≡ 0) → placed i ts x ((i + 1) + j) ≡ get_or ts j 0
placed_after i [] x j none = none ((i + 1) + j) (omega arith)
placed_after i (t ∷ ts) x zero none =
    let e : (i + 1) + 0 ≡ i + 1 = omega arith in
    ap (placed (i + 1) ts (put (i + 1) t x)) e ∙ (placed_before (i + 1) ts (put (i + 1) t x) (i + 1) (omega arith) ∙ put_here (i + 1) t x)
placed_after i (t ∷ ts) x (suc j) none =
    let e : (i + 1) + suc j ≡ ((i + 1) + 1) + j = omega arith in
    ap (placed (i + 1) ts (put (i + 1) t x)) e
    ∙ placed_after (i + 1) ts (put (i + 1) t x) j (λ g above. put_off (i + 1) t x g (λ e. omega arith) ∙ none g (omega arith))

-- over labels of nothing they are the list's
pub placed_is : (ts : List ℕ) → placed 0 ts (λ _. 0) ≡ slice_index (0 ∷ ts)
placed_is ts = same_key _ _ (λ g. at g)
  where
    at : (g : ℕ) → placed 0 ts (λ _. 0) g ≡ slice_index (0 ∷ ts) g
    at zero = placed_before 0 ts (λ _. 0) 0 (omega arith)
    at (suc j) = let e : suc j ≡ (0 + 1) + j = omega arith in ap (placed 0 ts (λ _. 0)) e ∙ placed_after 0 ts (λ _. 0) j (λ g above. refl)

pub path_long : {E : Type 0} (c : Symbols E) (ss : List ℕ) (x : Path) → is_path c ss x ≡ true → length x ≡ length ss + 1
path_long c ss [] is = absurd (cc)
path_long c ss (x ∷ xs) is =
    let parts = and_true (x == 0) (goes_on c 0 ss xs) is in
    omega (arith, goes_long c 0 ss xs parts.1)

-- a list of the labels at its places is the list again
pub listed_again : (n : ℕ) (xs : List ℕ) → length xs ≡ n → listed 0 n (slice_index xs) ≡ xs
listed_again n xs long =
    same_number_lists _ _ (length-listed 0 n (slice_index xs) ∙ sym long)
    (λ j l. let below : j < n = omega (arith, length-listed 0 n (slice_index xs)) in
    at_listed 0 n (slice_index xs) j below ∙ ap (slice_index xs) (omega arith))

module _ {E : Type 0} (c : Symbols E) {K : Held E} (laws : RingLaws c.ring K) where
  abbrev o : E → E → E
  o = c.ring.product

  -- the sum over the labels at n places after i, the first of them outermost
  abbrev pub onward : ℕ → ℕ → (Key → E) → Key → E
  onward i zero G x = G x
  onward i (suc n) G x = total c.ring c.count (λ t. onward (i + 1) n G (put (i + 1) t x))

  onward_last : (i n : ℕ) (G : Key → E) (x : Key) → onward i (suc n) G x ≡ onward i n (at_gap c (i + suc n) G) x
  onward_last i zero G x = refl
  onward_last i (suc n) G x =
      let e : (i + 1) + suc n ≡ i + suc (suc n) = omega arith in
      S.total_same laws c.count _ _ (λ t _. onward_last (i + 1) n G (put (i + 1) t x) ∙ ap (λ k. onward (i + 1) n (at_gap c k G) (put (i + 1) t x)) e)

  pub gaps_onward : (n : ℕ) (G : Key → E) (x : Key) → at_gaps c n G x ≡ onward 0 n G x
  gaps_onward zero G x = refl
  gaps_onward (suc n) G x =
      let e : suc n ≡ 0 + suc n = omega arith in
      ap (λ k. at_gaps c n (at_gap c k G) x) e ∙ (gaps_onward n (at_gap c (0 + suc n) G) x ∙ sym (onward_last 0 n G x))

  onward_none : (i n : ℕ) (G : Key → E) (x : Key) → ((ts : List ℕ) → length ts ≡ n → G (placed i ts x) ≡ c.ring.zero) → onward i n G x ≡ c.ring.zero
  onward_none i zero G x none = none [] refl
  onward_none i (suc n) G x none =
      S.total_none laws c.count _ (λ t _. onward_none (i + 1) n G (put (i + 1) t x) (λ ts long. none (t ∷ ts) (ap suc long)))

  sum_map : {A B : Type 0} (f : B → E) (g : A → B) (xs : List A) → sum_over c.ring f (map g xs) ≡ sum_over c.ring (λ x. f (g x)) xs
  sum_map f g [] = refl
  sum_map f g (x ∷ xs) = ap (c.ring.sum (f (g x))) (sum_map f g xs)

  -- a sum over what each label gives
  sum_labels : {A : Type 0} (f : A → E) (g : ℕ → List A) (n : ℕ) → sum_over c.ring f (flat_map g (labels n)) ≡ total c.ring n (λ t. sum_over c.ring f (g t))
  sum_labels f g zero = refl
  sum_labels f g (suc n) =
      ap (sum_over c.ring f) (flat_map-append g (labels n) (n ∷ []))
      ∙ (S.sum_over-append laws f (flat_map g (labels n)) (g n ++ [])
      ∙ ap₂ c.ring.sum (sum_labels f g n)
      (S.sum_over-append laws f (g n) [] ∙ laws.sum-zero _ (S.sum_over_is laws f (g n))))

  sum_if : {A : Type 0} (f : A → E) (b : Bool) (xs : List A) → sum_over c.ring f (if b then xs else []) ≡ (if b then sum_over c.ring f xs else c.ring.zero)
  sum_if f true xs = refl
  sum_if f false xs = refl

  -- the ways on over the strands, by the labels at the places after i
  ways_onward : (i p : ℕ) (ss : List ℕ) (F : List ℕ → E) (G : Key → E) (x : Key)
      → ((ts : List ℕ) → IsTrue (c.ring.member (F ts)))
      → ((ts : List ℕ) → goes_on c p ss ts ≡ true → F ts ≡ G (placed i ts x))
      → ((ts : List ℕ) → length ts ≡ length ss → goes_on c p ss ts ≡ false → G (placed i ts x) ≡ c.ring.zero)
      → sum_over c.ring F (ways c p ss) ≡ onward i (length ss) G x
  ways_onward i p [] F G x is on off = laws.sum-zero _ (is []) ∙ on [] refl
  ways_onward i p (s ∷ ss) F G x is on off =
      sum_labels F (λ t. if c.fuse p s t then map (λ ts. t ∷ ts) (ways c t ss) else []) c.count
      ∙ S.total_same laws c.count _ _ (λ t low.
      sum_if F (c.fuse p s t) (map (λ ts. t ∷ ts) (ways c t ss))
      ∙ elim (S.true_or_false (c.fuse p s t)) [
        | inl yes' ↦
            S.if_yes _ _ c.ring.zero yes'
            ∙ (sum_map F (λ ts. t ∷ ts) (ways c t ss)
            ∙ ways_onward (i + 1) t ss (λ ts. F (t ∷ ts)) G (put (i + 1) t x) (λ ts. is (t ∷ ts))
            (λ ts go. on (t ∷ ts) (S.and_yes _ _ (less t c.count low) (S.and_yes _ _ yes' go)))
            (λ ts long stop. off (t ∷ ts) (ap suc long) (S.and_right _ _ (S.and_right _ _ stop))))
        | inr no' ↦
            S.if_no _ (sum_over c.ring F (map (λ ts. t ∷ ts) (ways c t ss))) c.ring.zero no'
            ∙ sym (onward_none (i + 1) (length ss) G (put (i + 1) t x) (λ ts long. off (t ∷ ts) (ap suc long) (S.and_right _ _ (S.and_no _ _ no'))))
      ])
    where
      less : (t n : ℕ) → t < n → nat_lt t n ≡ true
      less t n h = grind (arith, nat_tests)

  -- The sum over all paths is the sum over all labels at the places 1 to n, where off paths there is nothing.
  pub paths_by_place : (ss : List ℕ) (F : Path → E) (G : Key → E)
      → ((x : Path) → IsTrue (c.ring.member (F x)))
      → ((x : Path) → is_path c ss x ≡ true → F x ≡ G (slice_index x))
      → ((ts : List ℕ) → length ts ≡ length ss → is_path c ss (0 ∷ ts) ≡ false → G (slice_index (0 ∷ ts)) ≡ c.ring.zero)
      → sum_over c.ring F (paths c ss) ≡ at_gaps c (length ss) G (λ _. 0)
  paths_by_place ss F G is on off =
      sum_map F (λ ts. zero ∷ ts) (ways c zero ss)
      ∙ (ways_onward 0 0 ss (λ ts. F (0 ∷ ts)) G (λ _. 0) (λ ts. is (0 ∷ ts))
      (λ ts go. on (0 ∷ ts) go ∙ ap G (sym (placed_is ts)))
      (λ ts long stop. ap G (placed_is ts) ∙ off ts long stop)
      ∙ sym (gaps_onward (length ss) G (λ _. 0)))

  -- the same of any function of paths
  pub paths_are_listed : (ss : List ℕ) (F : Path → E) → ((x : Path) → IsTrue (c.ring.member (F x)))
      → sum_over c.ring F (paths c ss)
      ≡ at_gaps c (length ss) (λ x. if is_path c ss (listed 0 (length ss + 1) x) then F (listed 0 (length ss + 1) x) else c.ring.zero) (λ _. 0)
  paths_are_listed ss F is =
      paths_by_place ss F (λ x. if is_path c ss (listed 0 (length ss + 1) x) then F (listed 0 (length ss + 1) x) else c.ring.zero) is
      (λ x path. sym (ap (λ l. if is_path c ss l then F l else c.ring.zero) (listed_again (length ss + 1) x (path_long c ss x path)) ∙ S.if_yes _ _ c.ring.zero path))
      (λ ts long stop.
      let all : suc (length ts) ≡ length ss + 1 = omega (arith, long) in
      ap (λ l. if is_path c ss l then F l else c.ring.zero) (listed_again (length ss + 1) (0 ∷ ts) all) ∙ S.if_no _ (F (0 ∷ ts)) _ stop)

  module _ (proper : IsProper c) where
    -- nothing is left of weights along what is no path
    weights_none : (p : ℕ) (ss xs : List ℕ) → C.weights_along c c.ring.zero p ss xs ≡ c.ring.zero
    weights_none p [] xs = refl
    weights_none p (s ∷ ss) [] = refl
    weights_none p (s ∷ ss) (x ∷ xs) = ap (λ y. C.weights_along c y x ss xs) (S.zero-product laws (c.w p s x)) ∙ weights_none x ss xs

    weights_off : (begun : E) (p : ℕ) (ss xs : List ℕ) → length xs ≡ length ss → goes_on c p ss xs ≡ false → C.weights_along c begun p ss xs ≡ c.ring.zero
    weights_off begun p [] [] long stop = absurd (cc)
    weights_off begun p [] (x ∷ xs) long stop = absurd (omega (arith, long))
    weights_off begun p (s ∷ ss) [] long stop = absurd (omega (arith, long))
    weights_off begun p (s ∷ ss) (x ∷ xs) long stop =
        elim (S.true_or_false (c.fuse p s x)) [
          | inr no' ↦
              ap (λ y. C.weights_along c y x ss xs) (Q.right_none c laws proper begun (c.w p s x) (proper.w_off p s x no')) ∙ weights_none x ss xs
          | inl yes' ↦
              weights_off (o begun (c.w p s x)) x ss xs (omega (arith, long)) (rest (nat_lt x c.count) (c.fuse p s x) (goes_on c x ss xs) (less x c.count (proper.labels p s x yes').2) yes' stop)
        ]
      where
        less : (t n : ℕ) → t < n → nat_lt t n ≡ true
        less t n h = grind (arith, nat_tests)

        rest : (a b d : Bool) → a ≡ true → b ≡ true → (a && (b && d)) ≡ false → d ≡ false
        rest true true d ea eb h = h
        rest false b d ea eb h = absurd (cc)
        rest true false d ea eb h = absurd (cc)

  -- the weights along a list are those along its places
  weights_by_place : (strand x : Key) (i : ℕ) (ss xs : List ℕ) → length xs ≡ length ss
      → ((j : ℕ) → j < length ss → get_or ss j 0 ≡ strand (i + j)) → ((j : ℕ) → j < length ss → get_or xs j 0 ≡ x (i + suc j))
      → C.weights_along c (along c strand x 0 i) (x i) ss xs ≡ along c strand x 0 (i + length ss)
  weights_by_place strand x i [] xs long strands path = ap (along c strand x 0) (omega arith)
  weights_by_place strand x i (s ∷ ss) [] long strands path = absurd (omega (arith, long))
  weights_by_place strand x i (s ∷ ss) (t ∷ ts) long strands path =
      let at_s : s ≡ strand (0 + i) = strands 0 (omega arith) ∙ ap strand (omega arith) in
      let at_t : t ≡ x ((0 + i) + 1) = path 0 (omega arith) ∙ ap x (omega arith) in
      let at_i : i ≡ 0 + i = omega arith in
      let up : (0 + i) + 1 ≡ suc i = omega arith in
      let all : suc i + length ss ≡ i + suc (length ss) = omega arith in
      (λ j. C.weights_along c (o (along c strand x 0 i) (c.w (x (at_i j)) (at_s j) (at_t j))) (at_t j) ss ts)
      ∙ (ap (λ k. C.weights_along c (along c strand x 0 (suc i)) (x k) ss ts) up
      ∙ (weights_by_place strand x (suc i) ss ts (omega (arith, long))
      (λ j below. strands (suc j) (omega (arith, below)) ∙ ap strand (omega arith))
      (λ j below. path (suc j) (omega (arith, below)) ∙ ap x (omega arith))
      ∙ ap (along c strand x 0) all))

  pub path_weight_by_place : (ss ts : List ℕ) → length ts ≡ length ss → C.path_weight c ss (0 ∷ ts) ≡ along c (slice_index ss) (slice_index (0 ∷ ts)) 0 (length ss)
  path_weight_by_place ss ts long =
      let e : 0 + length ss ≡ length ss = omega arith in
      weights_by_place (slice_index ss) (slice_index (0 ∷ ts)) 0 ss ts long (λ j _. let k : j ≡ 0 + j = omega arith in ap (slice_index ss) k) (λ j _. let k : suc j ≡ 0 + suc j = omega arith in ap (slice_index (0 ∷ ts)) k)
      ∙ ap (along c (slice_index ss) (slice_index (0 ∷ ts)) 0) e

  -- The weight of a vector is that of what it is by place.
  pub weight_by_place : IsProper c → (strands : List ℕ) (v : Vector E) (V : Key → E) → ((x : Path) → is_path c strands x ≡ true → v x ≡ V (slice_index x))
      → C.weight c strands v ≡ T.weight c (length strands) (slice_index strands) V
  weight_by_place proper strands v V same =
      paths_by_place strands _ (λ x. o (along c (slice_index strands) x 0 (length strands)) (o (V x) (c.ring.conjugate (V x))))
      (λ x. laws.product_is _ _)
      (λ x is. on x is)
      (λ ts long stop.
      ap (λ y. o y (o (V (slice_index (0 ∷ ts))) (c.ring.conjugate (V (slice_index (0 ∷ ts))))))
      (sym (path_weight_by_place strands ts long) ∙ weights_off proper c.ring.one 0 strands ts long stop)
      ∙ S.zero-product laws _)
    where
      on : (x : Path) → is_path c strands x ≡ true
          → o (C.path_weight c strands x) (o (v x) (c.ring.conjugate (v x)))
          ≡ o (along c (slice_index strands) (slice_index x) 0 (length strands)) (o (V (slice_index x)) (c.ring.conjugate (V (slice_index x))))
      on [] is = absurd (cc)
      on (y ∷ ts) is =
          let parts = and_true (y == 0) (goes_on c 0 strands ts) is in
          let unit : y ≡ 0 = grind (arith, nat_tests) in
          (λ j. o (C.path_weight c strands (unit j ∷ ts)) (o (same (y ∷ ts) is j) (c.ring.conjugate (same (y ∷ ts) is j))))
          ∙ ((λ j. o (path_weight_by_place strands ts (goes_long c 0 strands ts parts.1) j) (o (V (slice_index (y ∷ ts))) (c.ring.conjugate (V (slice_index (y ∷ ts))))))
          ∙ (λ j. o (along c (slice_index strands) (slice_index (sym unit j ∷ ts)) 0 (length strands)) (o (V (slice_index (y ∷ ts))) (c.ring.conjugate (V (slice_index (y ∷ ts)))))))
