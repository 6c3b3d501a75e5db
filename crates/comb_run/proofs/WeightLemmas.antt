-- The weight of a vector is evaluated over its entries.
use Rattle.std.proofs.Common.{◌≡◌, ℕ, Bool, true, false, ◌||◌, not, List, [], ◌∷◌, map, length, Option, Some, None, unwrap_or, refl, ap, sym, ◌∙◌}
use Rattle.std.specs.Prelude.{if◌then◌else◌, ◌&&◌, is_some, IsTrue}
use Rattle.std.specs.Str.{bytes_eq}
use Rattle.std.specs.List.{All, AllByRecursion, filter, list_any}
use Rattle.std.specs.List.Sorted.{IsStrictlySortedBy}
use Rattle.std.specs.Map.{keys_of, lookup}
use Rattle.std.specs.BTreeMap.{is_at}
use Rattle.std.specs.Ordering.{nat_cmp}
use Rattle.std.specs.declared.cmp.Ordering.TheVariants.{Less}
use Rattle.std.specs.Cmp.Lexicographic.{slice_cmp}
use Rattle.std.proofs.lemmas.List.Elements.{recursion_from_All}
use Rattle.std.proofs.lemmas.List.{length-map}
use Rattle.arrayvec.specs.ArrayVec.{ArrayVec}
use Rattle.ring_laws.specs.Ring.{RingLaws}
use Rattle.ring_laws.specs.Stated.{◌>>=◌, steps_over}
use Rattle.symbol_table.specs.Symbols.{Symbols}
use Rattle.comb_laws.specs.Paths.{Path, Vector, paths, is_path}
use Rattle.comb_run.specs.Evaluated.{path_weight_at, weight_term_at, weight_step, weight_at, amplitudes}
use Rattle.comb_run.specs.Entries.{path_of, paths_of, entry_at, vector_of, AreEntries, AreOrdered}
use Rattle.comb_run.proofs.EntryLemmas.{lookup_is}
use Rattle.comb_run.proofs.PathLemmas.{among_paths}
use Rattle.amp_store.specs.Amplitudes.{key_cmp}
use Rattle.amp_store.proofs.AmongLemmas.{and_false_right, any_turned, filter_any}
use Rattle.amp_store.proofs.OrderLemmas.{put_less, sorted_filter, same_in_order}
use Rattle.comb_run.proofs.OrderLemmas.{sorted_paths}

-- a step for an entry
abbrev pub entry_step : {E : Type 0} → Symbols E → List ℕ → ArrayVec ℕ × E → E → Option E
entry_step c strands e sum = weight_term_at c.ring (path_weight_at c strands (path_of strands e.0.items)) e.1 sum

bind_same : {A B : Type 0} (o p : Option A) (f g : A → Option B) → o ≡ p → ((x : A) → f x ≡ g x) → (o >>= f) ≡ (p >>= g)
bind_same o p f g e h = ap (λ q. q >>= f) e ∙ each p
  where
    each : (q : Option _) → (q >>= f) ≡ (q >>= g)
    each None = refl
    each (Some x) = h x

-- steps over items that are told by others
steps_told : {A B C : Type 0} (f : B → A → Option A) (h : C → A → Option A) (g : C → B) (xs : List C) (s : A) → AllByRecursion (λ x. (t : A) → f (g x) t ≡ h x t) xs → steps_over f (map g xs) s ≡ steps_over h xs s
steps_told f h g [] s all = refl
steps_told {A} f h g (x ∷ xs) s all = bind_same (f (g x) s) (h x s) (λ (n : A). steps_over f (map g xs) n) (λ (n : A). steps_over h xs n) (all.0 s) (λ n. steps_told f h g xs n all.1)

map_map : {A B C : Type 0} (f : B → C) (g : A → B) (xs : List A) → map f (map g xs) ≡ map (λ x. f (g x)) xs
map_map f g [] = refl
map_map f g (x ∷ xs) = ap (λ l. f (g x) ∷ l) (map_map f g xs)

keys_any : {E : Type 0} (strands : List ℕ) (es : List (ArrayVec ℕ × E)) (q : Path) → list_any (λ k. bytes_eq q k) (paths_of strands (keys_of es)) ≡ is_some (entry_at strands es q)
keys_any strands [] q = refl
keys_any {E} strands (e ∷ es) q = pick (bytes_eq q (path_of strands e.0.items)) (keys_any strands es q)
  where
    pick : (b : Bool) → list_any (λ k. bytes_eq q k) (paths_of strands (keys_of es)) ≡ is_some (entry_at strands es q) → (b || list_any (λ k. bytes_eq q k) (paths_of strands (keys_of es))) ≡ is_some (if b then Some e.1 else entry_at strands es q)
    pick true h = refl
    pick false h = h

module _ {E : Type 0} (c : Symbols E) (laws : RingLaws c.ring c.held) (strands : List ℕ) where
  abbrev counts : Vector E → Path → Bool
  counts v x = not (c.held.is_zero (v x))

  -- paths whose value is zero add nothing
  skipped : (v : Vector E) (xs : List Path) (s : E) → steps_over (weight_step c strands v) xs s ≡ steps_over (weight_step c strands v) (filter (counts v) xs) s
  skipped v [] s = refl
  skipped v (x ∷ xs) s = pick (c.held.is_zero (v x)) refl (skipped v xs)
    where
      pick : (z : Bool) → c.held.is_zero (v x) ≡ z → ((t : E) → steps_over (weight_step c strands v) xs t ≡ steps_over (weight_step c strands v) (filter (counts v) xs) t)
          → (weight_step c strands v x s >>= λ n. steps_over (weight_step c strands v) xs n) ≡ steps_over (weight_step c strands v) (if not z then x ∷ filter (counts v) xs else filter (counts v) xs) s
      pick true zero rest = rw zero (rest s)
      pick false some rest = bind_same (weight_step c strands v x s) (weight_step c strands v x s) (λ (n : E). steps_over (weight_step c strands v) xs n) (λ (n : E). steps_over (weight_step c strands v) (filter (counts v) xs) n) refl rest

  module _ (es : List (ArrayVec ℕ × E)) (are : AreEntries c strands es) where
    -- the paths that count are the entries' keys
    same_any : (q : Path) → list_any (λ k. bytes_eq q k) (filter (counts (vector_of c.ring strands es)) (paths c strands)) ≡ list_any (λ k. bytes_eq q k) (paths_of strands (keys_of es))
    same_any q =
        filter_any (counts (vector_of c.ring strands es)) q (paths c strands)
        ∙ (pick (entry_at strands es q) refl ∙ sym (keys_any strands es q))
      where
        pick : (o : Option E) → entry_at strands es q ≡ o → (list_any (λ k. bytes_eq q k) (paths c strands) && not (c.held.is_zero (unwrap_or o c.ring.zero))) ≡ is_some o
        pick None e =
            ap (λ b. list_any (λ k. bytes_eq q k) (paths c strands) && not b) ((laws.is_zero_is c.ring.zero laws.zero_is).1 refl)
            ∙ and_false_right (list_any (λ k. bytes_eq q k) (paths c strands))
        pick (Some v) e =
            λ j. (any_turned q (paths c strands) ∙ among_paths c strands q (are.paths q v e)) j && not (are.nonzero q v e j)

    keys_are : IsStrictlySortedBy key_cmp (paths_of strands (keys_of es)) → filter (counts (vector_of c.ring strands es)) (paths c strands) ≡ paths_of strands (keys_of es)
    keys_are sorted =
        same_in_order (filter (counts (vector_of c.ring strands es)) (paths c strands)) (paths_of strands (keys_of es))
        (sorted_filter (counts (vector_of c.ring strands es)) (paths c strands) (sorted_paths c strands)) sorted same_any

    told : (xs : List (ArrayVec ℕ × E)) → AllByRecursion (λ (e : ArrayVec ℕ × E). lookup (is_at (λ (k : ArrayVec ℕ). slice_cmp nat_cmp e.0.items k.items)) es ≡ Some e.1) xs
        → AllByRecursion (λ (e : ArrayVec ℕ × E). (t : E) → weight_step c strands (vector_of c.ring strands es) (path_of strands e.0.items) t ≡ entry_step c strands e t) xs
    told [] found = tt
    told (e ∷ xs) found =
        let there : entry_at strands es (path_of strands e.0.items) ≡ Some e.1 = sym (lookup_is strands es e.0.items) ∙ found.0 in
        (λ t. rw (there, are.nonzero (path_of strands e.0.items) e.1 there) refl, told xs found.1)

    -- the weight is evaluated over the entries
    pub weight_is : IsStrictlySortedBy key_cmp (paths_of strands (keys_of es))
        → All (λ (e : ArrayVec ℕ × E). lookup (is_at (λ (k : ArrayVec ℕ). slice_cmp nat_cmp e.0.items k.items)) es ≡ Some e.1) es
        → weight_at c strands (vector_of c.ring strands es) ≡ steps_over (entry_step c strands) es c.ring.zero
    weight_is sorted found =
        skipped (vector_of c.ring strands es) (paths c strands) c.ring.zero
        ∙ (ap (λ xs. steps_over (weight_step c strands (vector_of c.ring strands es)) xs c.ring.zero) (keys_are sorted ∙ map_map (λ (p : ArrayVec ℕ). path_of strands p.items) (λ (e : ArrayVec ℕ × E). e.0) es)
        ∙ steps_told (weight_step c strands (vector_of c.ring strands es)) (entry_step c strands) (λ (e : ArrayVec ℕ × E). path_of strands e.0.items) es c.ring.zero
        (told es (recursion_from_All (λ (e : ArrayVec ℕ × E). lookup (is_at (λ (k : ArrayVec ℕ). slice_cmp nat_cmp e.0.items k.items)) es ≡ Some e.1) es found)))

-- an entry has a member at a path
pub record IsEntry {E : Type 0} (c : Symbols E) (strands : List ℕ) (e : ArrayVec ℕ × E) : Type 0 where
  pub path : is_path c strands (path_of strands e.0.items) ≡ true
  pub member : IsTrue (c.ring.member e.1)

pub entries_are : {E : Type 0} (c : Symbols E) (strands : List ℕ) (es : List (ArrayVec ℕ × E)) → AreEntries c strands es
    → (xs : List (ArrayVec ℕ × E)) → AllByRecursion (λ (e : ArrayVec ℕ × E). lookup (is_at (λ (k : ArrayVec ℕ). slice_cmp nat_cmp e.0.items k.items)) es ≡ Some e.1) xs → AllByRecursion (IsEntry c strands) xs
entries_are c strands es are [] found = tt
entries_are {E} c strands es are (e ∷ xs) found =
    let there : entry_at strands es (path_of strands e.0.items) ≡ Some e.1 = sym (lookup_is strands es e.0.items) ∙ found.0 in
    (record { path = are.paths (path_of strands e.0.items) e.1 there; member = are.members (path_of strands e.0.items) e.1 there }, entries_are c strands es are xs found.1)

-- paths over the strands are in the order of their keys
paths_less : (strands a b : List ℕ) → key_cmp a b ≡ Less → key_cmp (path_of strands a) (path_of strands b) ≡ Less
paths_less [] a b h = put_less 0 a b h
paths_less (s ∷ strands) a b h = put_less 0 (s ∷ a) (s ∷ b) (put_less s a b h)

all_less : (strands : List ℕ) (x : ArrayVec ℕ) (keys : List (ArrayVec ℕ)) → AllByRecursion (λ (p : ArrayVec ℕ). key_cmp x.items p.items ≡ Less) keys → AllByRecursion (λ y. key_cmp (path_of strands x.items) y ≡ Less) (paths_of strands keys)
all_less strands x [] all = tt
all_less strands x (p ∷ keys) all = (paths_less strands x.items p.items all.0, all_less strands x keys all.1)

-- keys in order are paths in order
sorted_items : (strands : List ℕ) (keys : List (ArrayVec ℕ)) → IsStrictlySortedBy (λ (a b : ArrayVec ℕ). slice_cmp nat_cmp a.items b.items) keys → IsStrictlySortedBy key_cmp (paths_of strands keys)
unfolding IsStrictlySortedBy
sorted_items strands [] s = tt
sorted_items strands (x ∷ xs) s = (all_less strands x xs s.0, sorted_items strands xs s.1)

-- what a map says of its entries
pub record IsMap {E : Type 0} (es : List (ArrayVec ℕ × E)) : Type 0 where
  pub ordered : AreOrdered es
  pub found : All (λ e. lookup (is_at (λ (k : ArrayVec ℕ). slice_cmp nat_cmp e.0.items k.items)) es ≡ Some e.1) es

module _ {E : Type 0} (c : Symbols E) (laws : RingLaws c.ring c.held) (strands : List ℕ) (es : List (ArrayVec ℕ × E)) (are : AreEntries c strands es) (map_of : IsMap es) where
  pub begun : (left : List (ArrayVec ℕ × E)) (sum : E) → left ≡ es → sum ≡ c.ring.zero → steps_over (entry_step c strands) left sum ≡ weight_at c strands (vector_of c.ring strands es)
  begun left sum same none = rw (same, none) (sym (weight_is c laws strands es are (sorted_items strands (keys_of es) map_of.ordered) map_of.found))

  pub begun_entries : (left : List (ArrayVec ℕ × E)) → left ≡ es → AllByRecursion (IsEntry c strands) left
  begun_entries left same =
      rw same (entries_are c strands es are es (recursion_from_All (λ (e : ArrayVec ℕ × E). lookup (is_at (λ (k : ArrayVec ℕ). slice_cmp nat_cmp e.0.items k.items)) es ≡ Some e.1) es map_of.found))

-- there are as many entries as paths whose value isn't zero
pub entries_count : {E : Type 0} (c : Symbols E) → RingLaws c.ring c.held → (strands : List ℕ) (es : List (ArrayVec ℕ × E)) → AreEntries c strands es → AreOrdered es
    → length es ≡ amplitudes c strands (vector_of c.ring strands es)
entries_count {E} c laws strands es are ordered =
    sym (ap length (keys_are c laws strands es are (sorted_items strands (keys_of es) ordered))
    ∙ (length-map (keys_of es) (λ key. path_of strands key.items) ∙ length-map es (λ e. e.0)))

module _ {A B : Type 0} (step : B → A → Option A) where
  -- one step of a list that is told by its first item and the rest
  pub told_one : (left rest : List B) (x : B) (s v : A) (w : Option A) → left ≡ x ∷ rest → step x s ≡ Some v → steps_over step left s ≡ w → steps_over step rest v ≡ w
  told_one left rest x s v w is gives all = sym (ap (λ l. steps_over step l s) is ∙ rw gives refl) ∙ all

  pub told_none : (left rest : List B) (x : B) (s : A) (w : Option A) → left ≡ x ∷ rest → step x s ≡ None → steps_over step left s ≡ w → w ≡ None
  told_none left rest x s w is gives all = sym all ∙ (ap (λ l. steps_over step l s) is ∙ rw gives refl)

  pub told_end : (left : List B) (s : A) (w : Option A) → left ≡ [] → steps_over step left s ≡ w → w ≡ Some s
  told_end left s w is all = sym all ∙ ap (λ l. steps_over step l s) is
