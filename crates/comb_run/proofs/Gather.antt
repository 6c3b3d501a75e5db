-- The entries of a vector that is gathered path by path.
use Rattle.std.proofs.Common.{◌≡◌, not, ℕ, zero, suc, ◌+◌, ◌<◌, ◌≤◌, Bool, true, false, ◌||◌, List, [], ◌∷◌, ◌++◌, map, length, get_or, set, take, Option, unwrap_or, inl, inr, Some, None, refl, ap, sym, ◌∙◌, arith}
use mathlib.Core.Path.{fun_ext}
use Rattle.std.specs.Prelude.{is_some, if◌then◌else◌, ◌&&◌, ◌==◌, nat_lt, IsTrue}
use Rattle.std.specs.Str.{bytes_eq}
use Rattle.std.specs.List.{range_with_len, AllByRecursion, All, list_all}
use Rattle.std.proofs.lemmas.List.{set-set, set-get_or, get_or-set_same, take_more, map-append, length-set}
use Rattle.std.proofs.lemmas.List.Elements.{All-set, All-from_recursion}
use Rattle.std.proofs.lemmas.List.Folds.{list_any-append, list_all-append}
use Rattle.std.proofs.lemmas.Bool.Decides.{leb_tells}
use Rattle.std.proofs.lemmas.Slice.Eq.{bytes_eq-Decides}
use Rattle.std.specs.Map.{keys_of}
use Rattle.arrayvec.specs.ArrayVec.{ArrayVec}
use Rattle.ring_laws.specs.Ring.{Ring, Held, RingLaws}
use Rattle.ring_laws.specs.Sums.{total}
use Rattle.ring_laws.specs.Stated.{steps}
use Rattle.ring_laws.proofs.SumLemmas.{total_none}
use Rattle.symbol_table.specs.Symbols.{Symbols}
use Rattle.comb_laws.specs.Operators.{Kernel, term_at, acted}
use Rattle.comb_run.specs.Evaluated.{KernelAt, acted_step, acted_at}
use Rattle.comb_laws.specs.Paths.{Path, Vector, goes_on, is_path, labels, IsAlong}
use Rattle.comb_laws.proofs.PathFacts.{same_path, and_true, nat_lt_true, along_append, goes_long}
use Rattle.comb_run.proofs.EntryLemmas.{paths_hold}
use Rattle.comb_run.specs.Entries.{path_of, paths_of, row_from, entry_at, vector_of, row_of, is_first, rows_of_first, targets_of, items_of, AreMembers}
use Rattle.amp_store.specs.Gathered.{kept_of, among, gathered}
use Rattle.amp_store.proofs.GatherLemmas.{or_true}

or_false : (b c : Bool) → (b || c) ≡ false → (b ≡ false) × (c ≡ false)
or_false true c h = absurd (cc)
or_false false c h = (refl, h)

-- a path is among those of a row where it agrees with the row's path at all other places
among_range : (x y : Path) (k a n u : ℕ) → a ≤ u → u < a + n → set y k u ≡ x → among x (map (λ l. set y k l) (range_with_len a n)) ≡ true
among_range x y k a zero u low high e = absurd (omega arith)
among_range x y k a (suc n) u low high e =
    elim (leb_tells u a) [
      | inl here ↦
          let same : set y k a ≡ x = ap (λ (l : ℕ). set y k l) (omega arith) ∙ e in
          rw ((bytes_eq-Decides (set y k a) x).1 same) refl
      | inr above ↦ or_true (bytes_eq (set y k a) x) _ (among_range x y k (a + 1) n u (omega arith) (omega arith) e)
    ]

-- Where a path is among no row, no path that differs from it at place k alone has an entry: the first of those would be
-- the first of its row, and the path would be in that row.
module _ {E : Type 0} (count k : ℕ) (strands : List ℕ) (es : List (ArrayVec ℕ × E)) where
  none_first : (x : Path) (n : ℕ) → ((l : ℕ) → l < n → entry_at strands es (set x k l) ≡ None) → list_all (λ l. not (is_some (entry_at strands es (set x k l)))) (labels n) ≡ true
  none_first x zero none = refl
  none_first x (suc n) none =
      list_all-append (λ l. not (is_some (entry_at strands es (set x k l)))) (labels n) (n ∷ [])
      ∙ rw (none_first x n (λ l low. none l (omega arith)), none n (omega arith)) refl

  row_here : (x y : Path) → is_first strands es k y ≡ true → among x (row_of count k y) ≡ true → (ys : List Path) → among y ys ≡ true → among x (rows_of_first count k strands es ys) ≡ true
  row_here x y first there [] h = absurd (cc)
  row_here x y first there (p ∷ ys) h = pick (bytes_eq p y) (is_first strands es k p) refl refl h (row_here x y first there ys)
    where
      pick : (b d : Bool) → bytes_eq p y ≡ b → is_first strands es k p ≡ d → (b || among y ys) ≡ true
          → (among y ys ≡ true → among x (rows_of_first count k strands es ys) ≡ true)
          → among x (if d then row_of count k p ++ rows_of_first count k strands es ys else rows_of_first count k strands es ys) ≡ true
      pick true true same is h later =
          list_any-append (λ z. bytes_eq z x) (row_of count k p) (rows_of_first count k strands es ys)
          ∙ rw (ap (λ z. among x (row_of count k z)) (same_path p y same) ∙ there) refl
      pick true false same is h later = absurd (cc (sym is ∙ (ap (is_first strands es k) (same_path p y same) ∙ first)))
      pick false true other is h later = list_any-append (λ z. bytes_eq z x) (row_of count k p) (rows_of_first count k strands es ys) ∙ or_true _ _ (later h)
      pick false false other is h later = later h

  key_among : (fs : List (ArrayVec ℕ × E)) (y : Path) (v : E) → entry_at strands fs y ≡ Some v → among y (paths_of strands (keys_of fs)) ≡ true
  key_among [] y v e = absurd (cc)
  key_among (f ∷ fs) y v e = pick (bytes_eq y (path_of strands f.0.items)) refl e (key_among fs y v)
    where
      pick : (b : Bool) → bytes_eq y (path_of strands f.0.items) ≡ b → (if b then Some f.1 else entry_at strands fs y) ≡ Some v → (entry_at strands fs y ≡ Some v → among y (paths_of strands (keys_of fs)) ≡ true)
          → (bytes_eq (path_of strands f.0.items) y || among y (paths_of strands (keys_of fs))) ≡ true
      pick true same e later = rw ((bytes_eq-Decides (path_of strands f.0.items) y).1 (sym (same_path y (path_of strands f.0.items) same))) refl
      pick false other e later = or_true _ _ (later e)

  none_here : (x : Path) → k < length x → get_or x k 0 < count → among x (targets_of count k strands es) ≡ false → (t : ℕ)
      → ((l : ℕ) → l < t → entry_at strands es (set x k l) ≡ None) → (o : Option E) → entry_at strands es (set x k t) ≡ o → o ≡ None
  none_here x high low none t before None e = refl
  none_here x high low none t before (Some v) e =
      let y : Path = set x k t in
      let at : get_or y k 0 ≡ t = get_or-set_same x k t 0 high in
      let first : is_first strands es k y ≡ true =
      ap (λ (n : ℕ). list_all (λ l. not (is_some (entry_at strands es (set y k l)))) (labels n)) at
      ∙ none_first y t (λ l h. ap (entry_at strands es) (set-set x k t l) ∙ before l h) in
      let u = get_or x k 0 in
      let back : set y k u ≡ x = set-set x k t u ∙ set-get_or x k 0 in
      let there : among x (row_of count k y) ≡ true = among_range x y k 0 count u (omega arith) (omega arith) back in
      absurd (cc (sym none ∙ row_here x y first there (paths_of strands (keys_of es)) (key_among es y v e)))

  none_below : (x : Path) → k < length x → get_or x k 0 < count → among x (targets_of count k strands es) ≡ false → (n t : ℕ) → t < n → entry_at strands es (set x k t) ≡ None
  none_below x high low none zero t h = absurd (omega arith)
  none_below x high low none (suc n) t h = none_here x high low none t (λ l m. none_below x high low none n l (omega arith)) (entry_at strands es (set x k t)) refl

  -- no entry agrees with x at all places but k where x is no target
  pub none_there : (x : Path) → k < length x → get_or x k 0 < count → among x (targets_of count k strands es) ≡ false → (t : ℕ) → entry_at strands es (set x k t) ≡ None
  none_there x high low none t = none_below x high low none (suc t) t (omega arith)

-- the labels of a path are below the count
goes_low : {E : Type 0} (c : Symbols E) (p : ℕ) (ss xs : List ℕ) (k : ℕ) → goes_on c p ss xs ≡ true → k < length ss → get_or xs k 0 < c.count
goes_low c p [] xs k h low = absurd (omega arith)
goes_low c p (s ∷ ss) [] k h low = absurd (cc)
goes_low c p (s ∷ ss) (x ∷ xs) zero h low = nat_lt_true x c.count (and_true (nat_lt x c.count) (c.fuse p s x && goes_on c x ss xs) h).0
goes_low c p (s ∷ ss) (x ∷ xs) (suc k) h low =
    goes_low c x ss xs k (and_true (c.fuse p s x) (goes_on c x ss xs) (and_true (nat_lt x c.count) (c.fuse p s x && goes_on c x ss xs) h).1).1 (omega arith)

pub path_low : {E : Type 0} (c : Symbols E) (ss : List ℕ) (x : Path) (k : ℕ) → is_path c ss x ≡ true → 0 < k → k < length ss → get_or x k 0 < c.count
path_low c ss [] k h pos low = absurd (cc)
path_low c ss (x ∷ xs) zero h pos low = absurd (omega arith)
path_low c ss (x ∷ xs) (suc k) h pos low = goes_low c 0 ss xs k (and_true (x == 0) (goes_on c 0 ss xs) h).1 (omega arith)

-- a path has a label after each strand
path_long : {E : Type 0} (c : Symbols E) (ss : List ℕ) (x : Path) (k : ℕ) → is_path c ss x ≡ true → k < length ss → k < length x
path_long c ss [] k h low = absurd (cc)
path_long c ss (x ∷ xs) k h low = let long = goes_long c 0 ss xs (and_true (x == 0) (goes_on c 0 ss xs) h).1 in omega (arith, long)

steps_same : {E : Type 0} (step : ℕ → E → Option E) → ((t : ℕ) (s : E) → step t s ≡ Some s) → (t n : ℕ) (s : E) → steps step t n s ≡ Some s
steps_same step same t zero s = refl
steps_same step same t (suc n) s = rw (same t s) (steps_same step same (t + 1) n s)

along_row : (count n : ℕ) (y : Path) (k u m : ℕ) → u + m ≤ count → IsAlong count n y → AllByRecursion (IsAlong count n) (row_from u m k y)
along_row count n y k u zero few along = tt
along_row count n y k u (suc m) few along = (
  record {
    long = length-set y k u ∙ along.long;
    labels = All-set (λ l. l < count) y k u (omega arith) along.labels;
  },
  along_row count n y k (u + 1) m (omega arith) along,
)

rows_along : {E : Type 0} (count n k : ℕ) (strands : List ℕ) (es : List (ArrayVec ℕ × E)) (xs : List Path) → AllByRecursion (IsAlong count n) xs → AllByRecursion (IsAlong count n) (rows_of_first count k strands es xs)
rows_along count n k strands es [] along = tt
rows_along count n k strands es (x ∷ xs) along = pick (is_first strands es k x) (rows_along count n k strands es xs along.1)
  where
    pick : (b : Bool) → AllByRecursion (IsAlong count n) (rows_of_first count k strands es xs)
        → AllByRecursion (IsAlong count n) (if b then row_of count k x ++ rows_of_first count k strands es xs else rows_of_first count k strands es xs)
    pick true rest = along_append (IsAlong count n) (row_of count k x) (rows_of_first count k strands es xs) (along_row count n x k 0 count (omega arith) along.0) rest
    pick false rest = rest

items_along : (P : Path → Type 0) (ps : List (ArrayVec ℕ)) → AllByRecursion P (items_of ps) → AllByRecursion (λ p. P p.items) ps
items_along P [] h = tt
items_along P (p ∷ ps) h = (h.0, items_along P ps h.1)

-- each target is along the strands
pub all_along : {E : Type 0} (count n k : ℕ) (strands : List ℕ) (es : List (ArrayVec ℕ × E)) (ps : List (ArrayVec ℕ)) → AllByRecursion (λ (p : ArrayVec ℕ). IsAlong count n (path_of strands p.items)) (keys_of es)
    → items_of ps ≡ targets_of count k strands es → All (λ p. IsAlong count n p.items) ps
all_along count n k strands es ps along is =
    All-from_recursion (λ p. IsAlong count n p.items) ps (items_along (IsAlong count n) ps
    (rw is (rows_along count n k strands es (paths_of strands (keys_of es)) (paths_hold (IsAlong count n) strands (keys_of es) along))))

-- one more path of those that are taken
pub items_more : (ps : List (ArrayVec ℕ)) (i : ℕ) (p : ArrayVec ℕ) → p ≡ get_or ps i p → i < length ps → items_of (take (i + 1) ps) ≡ items_of (take i ps) ++ p.items ∷ []
items_more ps i p is below =
    ap items_of (take_more ps i p below) ∙ (map-append (λ q. q.items) (take i ps) (get_or ps i p ∷ []) ∙ ap (λ (q : ArrayVec ℕ). items_of (take i ps) ++ q.items ∷ []) (sym is))

module _ {E : Type 0} (c : Symbols E) (laws : RingLaws c.ring c.held) where
  zero_is_zero : c.held.is_zero c.ring.zero ≡ true
  zero_is_zero = (laws.is_zero_is c.ring.zero laws.zero_is).1 refl

  kept_zero : (v : E) → v ≡ c.ring.zero → kept_of c.held v ≡ None
  kept_zero v e = rw (e, zero_is_zero) refl

  nothing_there : (x : E) (o : Option E) → o ≡ None → c.ring.product x (unwrap_or o c.ring.zero) ≡ c.ring.zero
  nothing_there x o e = rw e (laws.product-zero x)

  nothing_by : (strands after : List ℕ) (k : ℕ) (kernel : Kernel E) (es : List (ArrayVec ℕ × E)) (x : Path) → 0 < k → k < length after → among x (targets_of c.count k strands es) ≡ false → (b : Bool) → is_path c after x ≡ b
      → (if b then total c.ring c.count (term_at c strands k kernel (vector_of c.ring strands es) x) else c.ring.zero) ≡ c.ring.zero
  nothing_by strands after k kernel es x pos high none false is = refl
  nothing_by strands after k kernel es x pos high none true is =
      total_none laws c.count (term_at c strands k kernel (vector_of c.ring strands es) x)
      (λ t _. nothing_there _ (entry_at strands es (set x k t)) (none_there c.count k strands es x (path_long c after x k is high) (path_low c after x k is pos high) none t))

  -- the new value is zero at a path that is no target
  acted_nothing : (strands after : List ℕ) (k : ℕ) (kernel : Kernel E) (es : List (ArrayVec ℕ × E)) (x : Path) → 0 < k → k < length after → among x (targets_of c.count k strands es) ≡ false → acted c strands after k kernel (vector_of c.ring strands es) x ≡ c.ring.zero
  acted_nothing strands after k kernel es x pos high none = nothing_by strands after k kernel es x pos high none (is_path c after x) refl

  gathered_by : (strands after : List ℕ) (k : ℕ) (kernel : Kernel E) (es : List (ArrayVec ℕ × E)) (x : Path) → 0 < k → k < length after → (b : Bool) → among x (targets_of c.count k strands es) ≡ b
      → (if b then kept_of c.held (acted c strands after k kernel (vector_of c.ring strands es) x) else None) ≡ kept_of c.held (acted c strands after k kernel (vector_of c.ring strands es) x)
  gathered_by strands after k kernel es x pos high true is = refl
  gathered_by strands after k kernel es x pos high false is = sym (kept_zero _ (acted_nothing strands after k kernel es x pos high is))

  -- what is gathered at the targets is kept of the whole vector
  pub gathered_all : (strands after : List ℕ) (k : ℕ) (kernel : Kernel E) (es : List (ArrayVec ℕ × E)) (x : Path) → 0 < k → k < length after
      → gathered c.held (acted c strands after k kernel (vector_of c.ring strands es)) (targets_of c.count k strands es) x ≡ kept_of c.held (acted c strands after k kernel (vector_of c.ring strands es) x)
  gathered_all strands after k kernel es x pos high = gathered_by strands after k kernel es x pos high (among x (targets_of c.count k strands es)) refl

  step_nothing : (by : Option E) (old s : E) (o : Option E) (n : E → Option E) → o ≡ None → (if c.held.is_zero (unwrap_or o c.ring.zero) then Some s else n old) ≡ Some s
  step_nothing by old s o n e = rw (e, zero_is_zero) refl

  fits_nothing_by : (strands after : List ℕ) (k : ℕ) (kernel : KernelAt E) (es : List (ArrayVec ℕ × E)) (x : Path) → 0 < k → k < length after → among x (targets_of c.count k strands es) ≡ false → (b : Bool) → is_path c after x ≡ b
      → is_some (if b then steps (acted_step c strands k kernel (vector_of c.ring strands es) x) 0 c.count c.ring.zero else Some c.ring.zero) ≡ true
  fits_nothing_by strands after k kernel es x pos high none false is = refl
  fits_nothing_by strands after k kernel es x pos high none true is =
      ap is_some (steps_same (acted_step c strands k kernel (vector_of c.ring strands es) x)
      (λ t s. rw (none_there c.count k strands es x (path_long c after x k is high) (path_low c after x k is pos high) none t, zero_is_zero) refl) 0 c.count c.ring.zero)

  fits_by : (strands after : List ℕ) (k : ℕ) (kernel : KernelAt E) (es : List (ArrayVec ℕ × E)) (x : Path) → 0 < k → k < length after → (b : Bool) → among x (targets_of c.count k strands es) ≡ b
      → (b ≡ true → is_some (acted_at c strands after k kernel (vector_of c.ring strands es) x) ≡ true) → is_some (acted_at c strands after k kernel (vector_of c.ring strands es) x) ≡ true
  fits_by strands after k kernel es x pos high true is h = h refl
  fits_by strands after k kernel es x pos high false is h = fits_nothing_by strands after k kernel es x pos high is (is_path c after x) refl

  -- where each item fits at the targets, each fits
  pub fits_all : (strands after : List ℕ) (k : ℕ) (kernel : KernelAt E) (es : List (ArrayVec ℕ × E)) (x : Path) → 0 < k → k < length after
      → (among x (targets_of c.count k strands es) ≡ true → is_some (acted_at c strands after k kernel (vector_of c.ring strands es) x) ≡ true) → is_some (acted_at c strands after k kernel (vector_of c.ring strands es) x) ≡ true
  fits_all strands after k kernel es x pos high h = fits_by strands after k kernel es x pos high (among x (targets_of c.count k strands es)) refl h

  or_kept : (v : E) (b : Bool) → IsTrue (c.ring.member v) → c.held.is_zero v ≡ b → unwrap_or (if b then None else Some v) c.ring.zero ≡ v
  or_kept v true m is = sym ((laws.is_zero_is v m).0 is)
  or_kept v false m is = refl

  -- entries that keep a vector are that vector
  pub vector_known : (strands : List ℕ) (es : List (ArrayVec ℕ × E)) (v : Vector E) → ((x : Path) → IsTrue (c.ring.member (v x))) → ((x : Path) → entry_at strands es x ≡ kept_of c.held (v x)) → vector_of c.ring strands es ≡ v
  vector_known strands es v m h = fun_ext (λ x. ap (λ o. unwrap_or o c.ring.zero) (h x) ∙ or_kept (v x) (c.held.is_zero (v x)) (m x) refl)

-- an item is among those of the list
pub among_item : (ps : List (ArrayVec ℕ)) (i : ℕ) (d : ArrayVec ℕ) → i < length ps → among (get_or ps i d).items (items_of ps) ≡ true
among_item [] i d h = absurd (omega arith)
among_item (p ∷ ps) zero d h = ap (λ b. b || among p.items (items_of ps)) ((bytes_eq-Decides p.items p.items).1 refl)
among_item (p ∷ ps) (suc i) d h = or_true _ _ (among_item ps i d (omega arith))

-- a vector of members has members everywhere
pub vector_members : {E : Type 0} {R : Ring E} {H : Held E} (laws : RingLaws R H) (strands : List ℕ) (es : List (ArrayVec ℕ × E)) → AreMembers R strands es → (x : Path) → IsTrue (R.member (vector_of R strands es x))
vector_members {E} {R} laws strands es members x = pick (entry_at strands es x) refl
  where
    pick : (o : Option E) → entry_at strands es x ≡ o → IsTrue (R.member (unwrap_or o R.zero))
    pick None e = laws.zero_is
    pick (Some v) e = members x v e
