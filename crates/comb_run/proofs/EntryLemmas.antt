-- Look-ups of a map by keys are those of its entries by paths.
use Rattle.std.proofs.Common.{◌≡◌, ℕ, suc, ◌+◌, ◌-◌, ◌<◌, Bool, true, false, List, [], ◌∷◌, ◌++◌, length, drop, Option, Some, None, cond, refl, ap, sym, ◌∙◌, subst, append_assoc, arith, slice_set}
use Rattle.std.specs.Prelude.{if◌then◌else◌}
use Rattle.std.specs.Str.{bytes_eq}
use Rattle.std.specs.Map.{lookup, keys_of}
use Rattle.std.specs.BTreeMap.{is_at}
use Rattle.std.specs.Ordering.{nat_cmp, is_eq}
use Rattle.std.specs.Cmp.Lexicographic.{slice_cmp}
use Rattle.std.proofs.lemmas.List.{append-nil}
use Rattle.std.proofs.lemmas.Map.Text.{is_eq-slice_cmp}
use Rattle.arrayvec.specs.ArrayVec.{ArrayVec}
use Rattle.std.specs.List.{AllByRecursion}
use Rattle.std.proofs.lemmas.Slice.Eq.{bytes_eq-Decides}
use Rattle.comb_laws.specs.Paths.{Path}
use Rattle.comb_laws.proofs.PathFacts.{same_path}
use Rattle.comb_run.proofs.KeyLemmas.{same_key, rest_of, no_key, turned}
use Rattle.comb_run.specs.Entries.{path_of, paths_of, entry_at, items_of, row_from, row_of, is_first, rows_of_first, targets_of}

pub lookup_is : {E : Type 0} (strands : List ℕ) (es : List (ArrayVec ℕ × E)) (key : List ℕ) → lookup (is_at (λ (k : ArrayVec ℕ). slice_cmp nat_cmp key k.items)) es ≡ entry_at strands es (path_of strands key)
lookup_is strands [] key = refl
lookup_is strands (e ∷ es) key = rw (is_eq-slice_cmp key e.0.items, lookup_is strands es key, same_key strands key e.0.items) refl

-- a list that isn't the path of its rest has no entry
entry_off : {E : Type 0} (strands : List ℕ) (es : List (ArrayVec ℕ × E)) (x : Path) → bytes_eq (path_of strands (rest_of strands x)) x ≡ false → entry_at strands es x ≡ None
entry_off strands [] x off = refl
entry_off strands (e ∷ es) x off =
    rw (turned (path_of strands e.0.items) x (no_key strands x e.0.items off)) (entry_off strands es x off)

-- a look-up by a list's key, where it is over the strands
pub got_is : {E : Type 0} (strands : List ℕ) (es : List (ArrayVec ℕ × E)) (key x : List ℕ) → bytes_eq (path_of strands key) x ≡ true
    → lookup (is_at (λ (k : ArrayVec ℕ). slice_cmp nat_cmp key k.items)) es ≡ entry_at strands es x
got_is strands es key x on = lookup_is strands es key ∙ ap (entry_at strands es) (same_path (path_of strands key) x on)

-- and where it isn't
pub none_got : {E : Type 0} (strands : List ℕ) (es : List (ArrayVec ℕ × E)) (x : Path) → 0 < length strands → bytes_eq (path_of strands (drop 2 x)) x ≡ false → entry_at strands es x ≡ None
none_got [] es x some off = absurd (omega arith)
none_got (s ∷ strands) es x some off = entry_off (s ∷ strands) es x off

-- a map with one more value
pub put_is : {E : Type 0} (new old : List (ArrayVec ℕ × E)) (p : List ℕ) (v : E)
    → ((key : List ℕ) → lookup (is_at (λ (k : ArrayVec ℕ). slice_cmp nat_cmp key k.items)) new ≡ cond (is_eq (slice_cmp nat_cmp p key)) (Some v) (lookup (is_at (λ (k : ArrayVec ℕ). slice_cmp nat_cmp key k.items)) old))
    → (strands x : List ℕ) → entry_at strands new x ≡ (if bytes_eq (path_of strands p) x then Some v else entry_at strands old x)
put_is {E} new old p v h strands x = pick (bytes_eq (path_of strands (rest_of strands x)) x) refl
  where
    there : (key : List ℕ) → entry_at strands new (path_of strands key) ≡ (if bytes_eq (path_of strands p) (path_of strands key) then Some v else entry_at strands old (path_of strands key))
    there key =
        sym (lookup_is strands new key)
        ∙ (h key ∙ (λ j. cond ((is_eq-slice_cmp p key ∙ sym (same_key strands p key)) j) (Some v) (lookup_is strands old key j)))

    pick : (b : Bool) → bytes_eq (path_of strands (rest_of strands x)) x ≡ b → entry_at strands new x ≡ (if bytes_eq (path_of strands p) x then Some v else entry_at strands old x)
    pick true on =
        subst (λ (y : Path). entry_at strands new y ≡ (if bytes_eq (path_of strands p) y then Some v else entry_at strands old y))
        (same_path (path_of strands (rest_of strands x)) x on) (there (rest_of strands x))
    pick false off = entry_off strands new x off ∙ sym (rw (no_key strands x p off) (entry_off strands old x off))

-- a value that isn't zero, put at the key of its path, is there
pub put_there : {E : Type 0} (old new : Path → Option E) (a b : Path) (v : E) (z : Bool) → (z ≡ false → b ≡ a)
    → ((x : Path) → new x ≡ (if z then old x else (if bytes_eq b x then Some v else old x)))
    → (x : Path) → new x ≡ (if z then old x else (if bytes_eq a x then Some v else old x))
put_there old new a b v true keyed made x = made x
put_there old new a b v false keyed made x = made x ∙ ap (λ y. if bytes_eq y x then Some v else old x) (keyed refl)

one_less : (t n : ℕ) → t < n → n - t ≡ suc (n - (t + 1))
one_less t n h = omega arith

items_of-append : (ps : List (ArrayVec ℕ)) (p : ArrayVec ℕ) → items_of (ps ++ p ∷ []) ≡ items_of ps ++ p.items ∷ []
items_of-append [] p = refl
items_of-append (q ∷ ps) p = ap (λ xs. q.items ∷ xs) (items_of-append ps p)

-- one more path of a row
pub row_one : (ps : List (ArrayVec ℕ)) (p : ArrayVec ℕ) (u n k : ℕ) (x : Path) → u < n → p.items ≡ slice_set x k u → items_of (ps ++ p ∷ []) ++ row_from (u + 1) (n - (u + 1)) k x ≡ items_of ps ++ row_from u (n - u) k x
row_one ps p u n k x h e =
    ap (λ xs. xs ++ row_from (u + 1) (n - (u + 1)) k x) (items_of-append ps p)
    ∙ (append_assoc (items_of ps) (p.items ∷ []) (row_from (u + 1) (n - (u + 1)) k x) ∙ rw (one_less u n h, e) refl)

-- the first entry is there
pub first_there : {E : Type 0} (strands : List ℕ) (e : ArrayVec ℕ × E) (es : List (ArrayVec ℕ × E)) → entry_at strands (e ∷ es) (path_of strands e.0.items) ≡ Some e.1
first_there strands e es =
    ap (λ b. if b then Some e.1 else entry_at strands es (path_of strands e.0.items)) ((bytes_eq-Decides (path_of strands e.0.items) (path_of strands e.0.items)).1 refl)

-- what holds of each path that has a value holds of each key's
pub keys_hold : {E : Type 0} (P : List ℕ → Type 0) (strands : List ℕ) (es : List (ArrayVec ℕ × E)) → ((x : List ℕ) (v : E) → entry_at strands es x ≡ Some v → P x)
    → AllByRecursion (λ (p : ArrayVec ℕ). P (path_of strands p.items)) (keys_of es)
keys_hold P strands [] all = tt
keys_hold {E} P strands (e ∷ es) all = (
  all (path_of strands e.0.items) e.1 (first_there strands e es),
  keys_hold P strands es (λ x v is. pick x v (bytes_eq x (path_of strands e.0.items)) refl is),
)
  where
    pick : (x : List ℕ) (v : E) (b : Bool) → bytes_eq x (path_of strands e.0.items) ≡ b → entry_at strands es x ≡ Some v → P x
    pick x v true same is = all x e.1 (ap (λ b. if b then Some e.1 else entry_at strands es x) same)
    pick x v false other is = all x v (ap (λ b. if b then Some e.1 else entry_at strands es x) other ∙ is)

-- what holds of each key's path holds of the keys' paths
pub paths_hold : (P : Path → Type 0) (strands : List ℕ) (keys : List (ArrayVec ℕ)) → AllByRecursion (λ (p : ArrayVec ℕ). P (path_of strands p.items)) keys → AllByRecursion P (paths_of strands keys)
paths_hold P strands [] all = tt
paths_hold P strands (p ∷ keys) all = (all.0, paths_hold P strands keys all.1)

module _ {E : Type 0} (count k : ℕ) (strands : List ℕ) (es : List (ArrayVec ℕ × E)) where
  -- one more path's row, of the targets
  pub targets_one : (ps new : List (ArrayVec ℕ)) (left rest : List (ArrayVec ℕ)) (p : ArrayVec ℕ) (x : Path) → left ≡ p ∷ rest → x ≡ path_of strands p.items → is_first strands es k x ≡ true
      → items_of ps ++ rows_of_first count k strands es (paths_of strands left) ≡ targets_of count k strands es → items_of new ≡ items_of ps ++ row_of count k x
      → items_of new ++ rows_of_first count k strands es (paths_of strands rest) ≡ targets_of count k strands es
  targets_one ps new left rest p x is path first before made =
      ap (λ xs. xs ++ rows_of_first count k strands es (paths_of strands rest)) made
      ∙ (append_assoc (items_of ps) (row_of count k x) (rows_of_first count k strands es (paths_of strands rest))
      ∙ (ap (λ ls. items_of ps ++ ls) (sym (here left rest p x is path ∙ rw first refl)) ∙ before))
    where
      here : (left rest : List (ArrayVec ℕ)) (p : ArrayVec ℕ) (x : Path) → left ≡ p ∷ rest → x ≡ path_of strands p.items → rows_of_first count k strands es (paths_of strands left) ≡ rows_of_first count k strands es (x ∷ paths_of strands rest)
      here left rest p x is path = ap (λ ks. rows_of_first count k strands es (paths_of strands ks)) is ∙ ap (λ y. rows_of_first count k strands es (y ∷ paths_of strands rest)) (sym path)

  -- a path whose row is among them
  pub targets_same : (ps : List (ArrayVec ℕ)) (left rest : List (ArrayVec ℕ)) (p : ArrayVec ℕ) (x : Path) → left ≡ p ∷ rest → x ≡ path_of strands p.items → is_first strands es k x ≡ false
      → items_of ps ++ rows_of_first count k strands es (paths_of strands left) ≡ targets_of count k strands es → items_of ps ++ rows_of_first count k strands es (paths_of strands rest) ≡ targets_of count k strands es
  targets_same ps left rest p x is path later before =
      ap (λ ls. items_of ps ++ ls)
      (sym (ap (λ ks. rows_of_first count k strands es (paths_of strands ks)) is ∙ rw (← path, later) refl))
      ∙ before

  -- before the first path
  pub targets_none : (ps keys : List (ArrayVec ℕ)) → ps ≡ [] → keys ≡ keys_of es → items_of ps ++ rows_of_first count k strands es (paths_of strands keys) ≡ targets_of count k strands es
  targets_none ps keys none same = rw (none, same) refl

  -- behind the last path
  pub targets_done : (ps left : List (ArrayVec ℕ)) → left ≡ [] → items_of ps ++ rows_of_first count k strands es (paths_of strands left) ≡ targets_of count k strands es → items_of ps ≡ targets_of count k strands es
  targets_done ps left none before =
      sym (append-nil (items_of ps)) ∙ (ap (λ ls. items_of ps ++ rows_of_first count k strands es (paths_of strands ls)) (sym none) ∙ before)
