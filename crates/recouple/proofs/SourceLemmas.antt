-- The new keys of a raise as those of its sources.
use Rattle.std.proofs.Common.{◌≡◌, ℕ, zero, suc, ◌+◌, ◌-◌, ◌<◌, Bool, true, false, ◌||◌, List, [], ◌∷◌, ◌++◌, append_assoc, append-nil, length, get_or, set, take, Some, None, refl, ap, sym, ◌∙◌, subst, arith}
use Rattle.std.specs.Prelude.{All, slice_get, if◌then◌else◌}
use Rattle.std.specs.Str.{bytes_eq}
use Rattle.std.specs.List.Sorted.{IsPermutation}
use Rattle.std.proofs.lemmas.Grind.{flat_map-append}
use Rattle.std.proofs.lemmas.List.{map-append, set-set, take_more}
use Rattle.std.proofs.lemmas.List.Elements.{All-append, All-cons, All-nil}
use Rattle.std.proofs.lemmas.List.Sorted.{IsPermutation-map, list_any-IsPermutation}
use Rattle.std.proofs.lemmas.Slice.Eq.{bytes_eq-Decides}
use Rattle.ring_laws.specs.Ring.{Held, Ring}
use Rattle.symbol_table.specs.Symbols.{Symbols}
use Rattle.amp_store.specs.Gathered.{among, gathered, kept_of}
use Rattle.amp_store.proofs.GatherLemmas.{among_more, or_true, same_key}
use Rattle.recouple.specs.Rotations.{IsKey, IsPlace, IsRotation, after}
use Rattle.recouple.specs.Raises.{AreOver, has_factor}
use Rattle.recouple.specs.Targets.{key_at, keys_of, row_from, row_of, target_at, targets_of}
use Rattle.recouple.specs.declared.rotation.Rotation.{Rotation}
use Rattle.recouple.specs.declared.sources.Source.{Source}
use Rattle.recouple.proofs.EndLemmas.{entry_has, key_has, keys_both, row_keys, take_one}

-- a key with a label at a place, which is then written over
pub relabelled : (x y : List ℕ) (i l : ℕ) → ((u : ℕ) → set x i u ≡ set y i u) → (u : ℕ) → set (set x i l) i u ≡ set y i u
relabelled x y i l same u = set-set x i l u ∙ same u

pub all_pushed : (P : Source → Type 0) (ks : List Source) (s : Source) (b : Bool) → All P ks → P s → All P (ks ++ (if b then s ∷ [] else []))
all_pushed P ks s true all one = All-append P ks (s ∷ []) all (All-cons P s [] one (All-nil P))
all_pushed P ks s false all one = All-append P ks [] all (All-nil P)

keys_by : {E : Type 0} (rotation : Rotation) (es : List (List ℕ × E)) (s : Source) (k : List ℕ) (b d : Bool) → b ≡ d → after rotation (key_at es s.place) s.to ≡ k
    → keys_of rotation es (if b then s ∷ [] else []) ≡ (if d then k ∷ [] else [])
keys_by rotation es s k true true e is = ap (λ y. y ∷ []) is
keys_by rotation es s k true false e is = absurd (cc)
keys_by rotation es s k false true e is = absurd (cc)
keys_by rotation es s k false false e is = refl

pub keys_append : {E : Type 0} (rotation : Rotation) (es : List (List ℕ × E)) (xs ys : List Source) → keys_of rotation es (xs ++ ys) ≡ keys_of rotation es xs ++ keys_of rotation es ys
keys_append rotation es xs ys = map-append (λ (s : Source). after rotation (key_at es s.place) s.to) xs ys

-- one more of the first sources
pub keys_one : {E : Type 0} (rotation : Rotation) (es : List (List ℕ × E)) (ks : List Source) (i : ℕ) (s : Source) → i < length ks
    → keys_of rotation es (take (i + 1) ks) ≡ keys_of rotation es (take i ks) ++ after rotation (key_at es (get_or ks i s).place) (get_or ks i s).to ∷ []
keys_one rotation es ks i s below = ap (keys_of rotation es) (take_more ks i s below) ∙ keys_append rotation es (take i ks) (get_or ks i s ∷ [])

module _ {E : Type 0} (c : Symbols E) (strands : List ℕ) (rotation : Rotation) where
  row_last : (u n : ℕ) (key : List ℕ) → row_from c strands rotation u (n + 1) key ≡ row_from c strands rotation u n key ++ target_at c strands rotation key (u + n)
  row_last u zero key = append-nil (target_at c strands rotation key u) ∙ ap (target_at c strands rotation key) (omega arith)
  row_last u (suc n) key =
      let more : suc n + 1 ≡ suc (n + 1) = omega arith in
      let there : (u + 1) + n ≡ u + suc n = omega arith in
      rw (more, ← there) (ap (λ l. target_at c strands rotation key u ++ l) (row_last (u + 1) n key)
      ∙ sym (append_assoc (target_at c strands rotation key u) (row_from c strands rotation (u + 1) n key) (target_at c strands rotation key ((u + 1) + n))))

  -- one more label of a row
  pub row_pushed : (es : List (List ℕ × E)) (key changed : List ℕ) (n : ℕ) (s : Source) (old ks new : List Source)
      → new ≡ ks ++ (if has_factor c strands rotation changed s.from then s ∷ [] else []) → changed ≡ after rotation key n → s.from ≡ get_or key (rotation.node - 1) 0 → s.to ≡ n → key_at es s.place ≡ key
      → keys_of rotation es ks ≡ keys_of rotation es old ++ row_from c strands rotation 0 n key → keys_of rotation es new ≡ keys_of rotation es old ++ row_from c strands rotation 0 (n + 1) key
  row_pushed es key changed n s old ks new pushed is from to there before =
      let here : 0 + n ≡ n = omega arith in
      let one : keys_of rotation es (if has_factor c strands rotation changed s.from then s ∷ [] else []) ≡ target_at c strands rotation key n =
      keys_by rotation es s (after rotation key n) (has_factor c strands rotation changed s.from) (has_factor c strands rotation (after rotation key n) (get_or key (rotation.node - 1) 0))
      (λ j. has_factor c strands rotation (is j) (from j)) (λ j. after rotation (there j) (to j)) in
      ap (keys_of rotation es) pushed
      ∙ (keys_append rotation es ks (if has_factor c strands rotation changed s.from then s ∷ [] else [])
      ∙ ((λ j. before j ++ one j)
      ∙ (append_assoc (keys_of rotation es old) (row_from c strands rotation 0 n key) (target_at c strands rotation key n)
      ∙ ap (λ l. keys_of rotation es old ++ l) (ap (λ m. row_from c strands rotation 0 n key ++ target_at c strands rotation key m) (sym here) ∙ sym (row_last 0 n key)))))

  -- one more old key
  pub targets_one : (es : List (List ℕ × E)) (i : ℕ) (e : List ℕ × E) → slice_get es i ≡ Some e
      → targets_of c strands rotation (take (i + 1) es) ≡ targets_of c strands rotation (take i es) ++ row_of c strands rotation e.0
  targets_one es i e h =
      ap (targets_of c strands rotation) (take_one es i e h)
      ∙ (flat_map-append (λ (d : List ℕ × E). row_of c strands rotation d.0) (take i es) (e ∷ []) ∙ ap (λ l. targets_of c strands rotation (take i es) ++ l) (append-nil (row_of c strands rotation e.0)))

  -- the new keys have a label below the count for each gap
  targets_keys : (n : ℕ) (some : List (List ℕ × E)) → IsRotation n rotation → ((i : ℕ) (e : List ℕ × E) → slice_get some i ≡ Some e → IsKey c.count n e.0)
      → (x : List ℕ) → among x (targets_of c strands rotation some) ≡ true → IsKey c.count n x
  targets_keys n [] is keys x h = absurd (cc)
  targets_keys n (e ∷ some) is keys x h =
      keys_both c.count n (row_of c strands rotation e.0) (targets_of c strands rotation some) (λ y i. row_keys c strands rotation n e.0 y is (keys zero e refl) i)
      (targets_keys n some is (λ i d there. keys (suc i) d there)) x h

  pub targets_over : (n : ℕ) (es : List (List ℕ × E)) → IsRotation n rotation → AreOver c.ring c.count n es → (x : List ℕ) → among x (targets_of c strands rotation es) ≡ true → IsKey c.count n x
  targets_over n es is over = targets_keys n es is (λ i e there. let has = entry_has es i e there in over.keys e.0 has.0 has.1)

-- a key at a place is among all
pub among_item : {E : Type 0} (rotation : Rotation) (es : List (List ℕ × E)) (ks : List Source) (i : ℕ) (d : Source) → i < length ks → among (after rotation (key_at es (get_or ks i d).place) (get_or ks i d).to) (keys_of rotation es ks) ≡ true
among_item rotation es [] i d h = absurd (omega arith)
among_item rotation es (k ∷ ks) zero d h =
    ap (λ b. b || among (after rotation (key_at es k.place) k.to) (keys_of rotation es ks)) ((bytes_eq-Decides (after rotation (key_at es k.place) k.to) (after rotation (key_at es k.place) k.to)).1 refl)
among_item rotation es (k ∷ ks) (suc i) d h = or_true _ _ (among_item rotation es ks i d (omega arith))

-- sources in another order
pub among_moved : {E : Type 0} (rotation : Rotation) (es : List (List ℕ × E)) (ks ls : List Source) → IsPermutation ks ls → (x : List ℕ) → among x (keys_of rotation es ls) ≡ among x (keys_of rotation es ks)
among_moved rotation es ks ls moved x =
    sym (list_any-IsPermutation (λ y. bytes_eq y x) (keys_of rotation es ks) (keys_of rotation es ls) (IsPermutation-map (λ (s : Source). after rotation (key_at es s.place) s.to) ks ls moved))

-- a key that was done
again_by : (d b : Bool) → (b ≡ true → d ≡ true) → d ≡ (d || b)
again_by true b h = refl
again_by false true h = h refl
again_by false false h = refl

pub among_again : (x a : List ℕ) (done : List (List ℕ)) → among a done ≡ true → among x done ≡ among x (done ++ a ∷ [])
among_again x a done h =
    again_by (among x done) (bytes_eq a x) (λ e. subst (λ (y : List ℕ). among y done ≡ true) (same_key a x e) h) ∙ sym (among_more x a done)

-- the last key is done
pub among_last : (x a : List ℕ) (done : List (List ℕ)) → a ≡ x → among x (done ++ a ∷ []) ≡ true
among_last x a done e = among_more x a done ∙ or_true (among x done) (bytes_eq a x) ((bytes_eq-Decides a x).1 e)

-- what is gathered at the same keys is the same
pub gathered_same : {E : Type 0} (h : Held E) (v : List ℕ → E) (first second : List (List ℕ)) (x : List ℕ) → among x first ≡ among x second → gathered h v first x ≡ gathered h v second x
gathered_same h v first second x same = ap (λ b. if b then kept_of h (v x) else None) same

-- a gap of a tree has a place in each key
pub place_of : (n m gap : ℕ) → n ≡ m + 1 → IsPlace (n - 1) gap → IsPlace m gap
place_of n m gap long is = record { low = is.low; high = omega (arith, long, is.high) }

-- the key at a place is one of so many labels
pub key_at_is : {E : Type 0} (r : Ring E) (count n : ℕ) (es : List (List ℕ × E)) (i : ℕ) → AreOver r count n es → i < length es → IsKey count n (key_at es i)
key_at_is r count n es i over low = let has = key_has es i low in over.keys (key_at es i) has.0 has.1

pub key_long : (count n gap : ℕ) (key : List ℕ) → IsKey count n key → IsPlace (n - 1) gap → 0 < length key
key_long count n gap key is place = omega (arith, is.long, place.low, place.high)
