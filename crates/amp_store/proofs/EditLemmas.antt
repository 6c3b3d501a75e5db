-- What an edit at the place of a key does to amplitudes.
use Rattle.std.proofs.Common.{◌≡◌, ℕ, zero, suc, Bool, true, false, List, [], ◌∷◌, map, set, Option, Some, None, refl, ap, sym, ◌∙◌}
use Rattle.std.specs.Prelude.{if◌then◌else◌}
use Rattle.std.specs.Str.{bytes_eq}
use Rattle.std.specs.List.{AllByRecursion, insert}
use Rattle.std.specs.List.Sorted.{IsStrictlySortedBy}
use Rattle.std.specs.Map.{keys_of}
use Rattle.std.specs.Cmp.{IsTotalOrder}
use Rattle.std.specs.Ordering.{match_ordering, ordering_reverse}
use Rattle.std.specs.BTreeMap.{insert_entry}
use Rattle.std.specs.declared.cmp.Ordering.{Ordering}
use Rattle.std.specs.declared.cmp.Ordering.TheVariants.{Less, Equal, Greater}
use Rattle.std.proofs.lemmas.Cmp.{nat_list_cmp_total, tied_itself}
use Rattle.std.proofs.lemmas.Map.Lookups.{exact_bytes}
use Rattle.std.proofs.lemmas.Slice.Eq.{bytes_eq-Decides}
use Rattle.ring_laws.specs.Ring.{Held}
use Rattle.amp_store.specs.Amplitudes.{key_cmp, amplitude_at, AreAmplitudes}
use Rattle.std.proofs.lemmas.List.{map-set}
use Rattle.amp_store.specs.declared.entry.Entry.{Entry}
use Rattle.amp_store.specs.Places.{IsAt, IsGap, amplitudes_in}

map_insert : {A B : Type 0} (f : A → B) (l : List A) (i : ℕ) (a : A) → map f (insert l i a) ≡ insert (map f l) i (f a)
map_insert f l zero a = refl
map_insert f [] (suc i) a = refl
map_insert f (x ∷ l) (suc i) a = ap (λ m. f x ∷ m) (map_insert f l i a)

pub same_keys : (a b : List ℕ) → a ≡ b → key_cmp a b ≡ Equal
same_keys a b e = ap (λ k. key_cmp a k) (sym e) ∙ tied_itself nat_list_cmp_total a

pub turned_round : (a b : List ℕ) (o : Ordering) → key_cmp a b ≡ o → key_cmp b a ≡ ordering_reverse o
turned_round a b o e = IsTotalOrder.antisymm nat_list_cmp_total b a ∙ ap ordering_reverse e

pub eq_turned : (a b : List ℕ) → bytes_eq a b ≡ bytes_eq b a
eq_turned a b = by (bytes_eq a b) (bytes_eq b a) refl refl
  where
    by : (c d : Bool) → bytes_eq a b ≡ c → bytes_eq b a ≡ d → c ≡ d
    by true true e f = refl
    by false false e f = refl
    by true false e f = sym ((bytes_eq-Decides b a).1 (sym ((bytes_eq-Decides a b).0 e))) ∙ f
    by false true e f = sym e ∙ (bytes_eq-Decides a b).1 (sym ((bytes_eq-Decides b a).0 f))

greater_apart : (a b : List ℕ) → key_cmp a b ≡ Greater → a ≡ b → ⊥
greater_apart a b g e =
    let h : Equal ≡ Greater = sym (same_keys a b e) ∙ g in
    absurd (cc)

both_same : {A : Type 0} (b c : Bool) (p q r : A) → b ≡ c → (if b then p else r) ≡ (if c then p else (if b then q else r))
both_same true true p q r e = refl
both_same true false p q r e = absurd (cc)
both_same false true p q r e = absurd (cc)
both_same false false p q r e = refl

not_both : {A : Type 0} (b c : Bool) (p q r n : A) → (b ≡ true → c ≡ true → ⊥) → n ≡ (if c then p else r) → (if b then q else n) ≡ (if c then p else (if b then q else r))
not_both true true p q r n h e = absurd (h refl refl)
not_both true false p q r n h e = refl
not_both false true p q r n h e = e
not_both false false p q r n h e = e

module _ {E : Type 0} (key : List ℕ) (v : E) where
  step : (e : List ℕ × E) (es : List (List ℕ × E)) (o : Ordering) → key_cmp key e.0 ≡ o
      → insert_entry key_cmp (e ∷ es) key v ≡ match_ordering o ((key, v) ∷ e ∷ es) ((e.0, v) ∷ es) (e ∷ insert_entry key_cmp es key v)
  step e es o h = ap (λ o. match_ordering o ((key, v) ∷ e ∷ es) ((e.0, v) ∷ es) (e ∷ insert_entry key_cmp es key v)) h

  -- a new number at the place of its key
  pub written_over : (es : List (List ℕ × E)) (i : ℕ) → IsAt es key i → set es i (key, v) ≡ insert_entry key_cmp es key v
  written_over [] i h = absurd h
  written_over (e ∷ es) zero h = ap (λ (k : List ℕ). (k, v) ∷ es) h ∙ sym (step e es Equal (same_keys key e.0 h))
  written_over (e ∷ es) (suc i) h = ap (λ l. e ∷ l) (written_over es i h.1) ∙ sym (step e es Greater h.0)

  -- a new key in its gap
  pub put_between : (es : List (List ℕ × E)) (i : ℕ) → IsGap es key i → insert es i (key, v) ≡ insert_entry key_cmp es key v
  put_between [] zero h = refl
  put_between [] (suc i) h = absurd h
  put_between (e ∷ es) zero h = sym (step e es Less h)
  put_between (e ∷ es) (suc i) h = ap (λ l. e ∷ l) (put_between es i h.1) ∙ sym (step e es Greater h.0)

  all_put : (P : List ℕ → Type 0) (es : List (List ℕ × E)) → P key → AllByRecursion P (keys_of es) → AllByRecursion P (keys_of (insert_entry key_cmp es key v))
  all_put P [] one all = (one, tt)
  all_put P (e ∷ es) one all = by (key_cmp key e.0) (all_put P es one all.1)
    where
      by : (o : Ordering) → AllByRecursion P (keys_of (insert_entry key_cmp es key v)) → AllByRecursion P (keys_of (match_ordering o ((key, v) ∷ e ∷ es) ((e.0, v) ∷ es) (e ∷ insert_entry key_cmp es key v)))
      by Less h = (one, all)
      by Equal h = all
      by Greater h = (all.0, h)

  below_all : (a : List ℕ) (ks : List (List ℕ)) → key_cmp key a ≡ Less → AllByRecursion (λ b. key_cmp a b ≡ Less) ks → AllByRecursion (λ b. key_cmp key b ≡ Less) ks
  below_all a [] h all = tt
  below_all a (b ∷ ks) h all = (IsTotalOrder.trans nat_list_cmp_total key a b h all.0, below_all a ks h all.1)

  sorted_by : (e : List ℕ × E) (es : List (List ℕ × E)) (o : Ordering) → key_cmp key e.0 ≡ o → IsStrictlySortedBy key_cmp (e.0 ∷ keys_of es)
      → IsStrictlySortedBy key_cmp (keys_of (insert_entry key_cmp es key v))
      → IsStrictlySortedBy key_cmp (keys_of (match_ordering o ((key, v) ∷ e ∷ es) ((e.0, v) ∷ es) (e ∷ insert_entry key_cmp es key v)))
  unfolding IsStrictlySortedBy
  sorted_by e es Less h s rest = ((h, below_all e.0 (keys_of es) h s.0), s)
  sorted_by e es Equal h s rest = s
  sorted_by e es Greater h s rest = (all_put (λ b. key_cmp e.0 b ≡ Less) es (turned_round key e.0 Greater h) s.0, rest)

  pub sorted_put : (es : List (List ℕ × E)) → IsStrictlySortedBy key_cmp (keys_of es) → IsStrictlySortedBy key_cmp (keys_of (insert_entry key_cmp es key v))
  unfolding IsStrictlySortedBy
  sorted_put [] s = (tt, tt)
  sorted_put (e ∷ es) s = sorted_by e es (key_cmp key e.0) refl s (sorted_put es s.1)

  pub entries_put : (P : List ℕ × E → Type 0) (es : List (List ℕ × E)) → P (key, v) → ((k : List ℕ) → key ≡ k → P (k, v)) → AllByRecursion P es → AllByRecursion P (insert_entry key_cmp es key v)
  entries_put P [] one other all = (one, tt)
  entries_put P (e ∷ es) one other all = by (key_cmp key e.0) refl (entries_put P es one other all.1)
    where
      by : (o : Ordering) → key_cmp key e.0 ≡ o → AllByRecursion P (insert_entry key_cmp es key v) → AllByRecursion P (match_ordering o ((key, v) ∷ e ∷ es) ((e.0, v) ∷ es) (e ∷ insert_entry key_cmp es key v))
      by Less is h = (one, all)
      by Equal is h = (other e.0 (exact_bytes key e.0 is), all.1)
      by Greater is h = (all.0, h)

  found_by : (x : List ℕ) (e : List ℕ × E) (es : List (List ℕ × E)) (o : Ordering) → key_cmp key e.0 ≡ o
      → amplitude_at (insert_entry key_cmp es key v) x ≡ (if bytes_eq key x then Some v else amplitude_at es x)
      → amplitude_at (match_ordering o ((key, v) ∷ e ∷ es) ((e.0, v) ∷ es) (e ∷ insert_entry key_cmp es key v)) x
      ≡ (if bytes_eq key x then Some v else (if bytes_eq x e.0 then Some e.1 else amplitude_at es x))
  found_by x e es Less is h = ap (λ d. if d then Some v else (if bytes_eq x e.0 then Some e.1 else amplitude_at es x)) (eq_turned x key)
  found_by x e es Equal is h =
      both_same (bytes_eq x e.0) (bytes_eq key x) (Some v) (Some e.1) (amplitude_at es x) (ap (bytes_eq x) (sym (exact_bytes key e.0 is)) ∙ eq_turned x key)
  found_by x e es Greater is h =
      not_both (bytes_eq x e.0) (bytes_eq key x) (Some v) (Some e.1) (amplitude_at es x) (amplitude_at (insert_entry key_cmp es key v) x)
      (λ t u. greater_apart key e.0 is ((bytes_eq-Decides key x).0 u ∙ (bytes_eq-Decides x e.0).0 t)) h

  -- the numbers after one was put
  pub found_put : (es : List (List ℕ × E)) (x : List ℕ) → amplitude_at (insert_entry key_cmp es key v) x ≡ (if bytes_eq key x then Some v else amplitude_at es x)
  found_put [] x = ap (λ d. if d then Some v else None) (eq_turned x key)
  found_put (e ∷ es) x = found_by x e es (key_cmp key e.0) refl (found_put es x)

pub no_amplitudes : {E : Type 0} (held : Held E) → AreAmplitudes held []
unfolding IsStrictlySortedBy
no_amplitudes held = record { ordered = tt; nonzero = tt }

-- one more number, which isn't zero
pub amplitudes_put : {E : Type 0} (held : Held E) (es : List (List ℕ × E)) (key : List ℕ) (v : E) → held.is_zero v ≡ false → AreAmplitudes held es → AreAmplitudes held (insert_entry key_cmp es key v)
amplitudes_put held es key v nonzero is = record {
  ordered = sorted_put key v es is.ordered;
  nonzero = entries_put key v (λ e. held.is_zero e.1 ≡ false) es nonzero (λ k _. nonzero) is.nonzero;
}

module _ {R E : Type 0} (entries : List (Entry R E)) (d : Entry R E) (i : ℕ) where
  -- the entries after one is written over, and after one is put between
  pub set_is : IsAt (amplitudes_in entries) d.key.items i → amplitudes_in (set entries i d) ≡ insert_entry key_cmp (amplitudes_in entries) d.key.items d.value.value
  set_is h = map-set (λ (e : Entry R E). (e.key.items, e.value.value)) entries i d ∙ written_over d.key.items d.value.value (amplitudes_in entries) i h

  pub insert_is : IsGap (amplitudes_in entries) d.key.items i → amplitudes_in (insert entries i d) ≡ insert_entry key_cmp (amplitudes_in entries) d.key.items d.value.value
  insert_is h = map_insert (λ (e : Entry R E). (e.key.items, e.value.value)) entries i d ∙ put_between d.key.items d.value.value (amplitudes_in entries) i h

-- a number that a key has isn't zero
nonzero_by : {E : Type 0} (held : Held E) (e v : E) (o : Option E) (b : Bool) → held.is_zero e ≡ false → (o ≡ Some v → held.is_zero v ≡ false) → (if b then Some e else o) ≡ Some v → held.is_zero v ≡ false
nonzero_by held e v o true h rest is = let same : v ≡ e = cc in ap held.is_zero same ∙ h
nonzero_by held e v o false h rest is = rest is

pub nonzero_in : {E : Type 0} (held : Held E) (es : List (List ℕ × E)) (key : List ℕ) (v : E) → AllByRecursion (λ (e : List ℕ × E). held.is_zero e.1 ≡ false) es → amplitude_at es key ≡ Some v → held.is_zero v ≡ false
nonzero_in held [] key v all is = absurd (cc)
nonzero_in held (e ∷ es) key v all is = nonzero_by held e.1 v (amplitude_at es key) (bytes_eq key e.0) all.0 (nonzero_in held es key v all.1) is

pub nonzero_at : {R E : Type 0} (held : Held E) (entries : List (Entry R E)) (key : List ℕ) (v : E) → AreAmplitudes held (amplitudes_in entries) → amplitude_at (amplitudes_in entries) key ≡ Some v → held.is_zero v ≡ false
nonzero_at held entries key v is h = nonzero_in held (amplitudes_in entries) key v is.nonzero h
