-- What a search among entries in order finds.
use Rattle.std.proofs.Common.{◌≡◌, ℕ, zero, suc, ◌+◌, ◌<◌, ◌≤◌, false, List, [], ◌∷◌, length, get_or, Some, None, inl, inr, refl, ap, sym, ◌∙◌, arith}
use Rattle.std.specs.List.{AllByRecursion}
use Rattle.std.specs.List.Sorted.{IsStrictlySortedBy}
use Rattle.std.specs.Map.{keys_of}
use Rattle.std.specs.Ordering.{is_eq}
use Rattle.std.specs.Cmp.{IsTotalOrder}
use Rattle.std.specs.Prelude.{if◌then◌else◌}
use Rattle.std.specs.Str.{bytes_eq}
use Rattle.std.proofs.lemmas.Map.Text.{is_eq-slice_cmp}
use Rattle.std.proofs.lemmas.Slice.Eq.{bytes_eq-Decides}
use Rattle.std.specs.declared.cmp.Ordering.{Ordering}
use Rattle.std.specs.declared.cmp.Ordering.TheVariants.{Less, Equal, Greater}
use Rattle.std.proofs.lemmas.Cmp.{nat_list_cmp_total}
use Rattle.std.proofs.lemmas.Map.Lookups.{exact_bytes}
use Rattle.std.proofs.lemmas.List.{get_or_default}
use Rattle.std.proofs.lemmas.Bool.Decides.{leb_tells}
use Rattle.amp_store.specs.Amplitudes.{key_cmp, amplitude_at}
use Rattle.amp_store.specs.Places.{amplitudes_in, IsAt, IsGap}
use Rattle.amp_store.specs.declared.entry.Entry.{Entry}
use Rattle.amp_store.proofs.EditLemmas.{turned_round}

not_this : (a b : List ℕ) (o : Ordering) → key_cmp a b ≡ o → is_eq o ≡ false → bytes_eq a b ≡ false
not_this a b o h e = sym (is_eq-slice_cmp a b) ∙ (ap is_eq h ∙ e)

-- what holds of each key holds of the one at a place
all_at : {E : Type 0} (P : List ℕ → Type 0) (es : List (List ℕ × E)) (key : List ℕ) (i : ℕ) → AllByRecursion P (keys_of es) → IsAt es key i → (k : List ℕ) × P k × (key ≡ k)
all_at P [] key i all h = absurd h
all_at P (e ∷ es) key zero all h = (e.0, all.0, h)
all_at P (e ∷ es) key (suc i) all h = all_at P es key i all.1 h.1

module _ {R E : Type 0} where
  abbrev key_of : Entry R E → List ℕ
  key_of e = e.key.items

  pub found_at : (entries : List (Entry R E)) (key : List ℕ) (i : ℕ) → IsStrictlySortedBy key_cmp (keys_of (amplitudes_in entries)) → i < length entries
      → ((d : Entry R E) → key_cmp (key_of (get_or entries i d)) key ≡ Equal) → IsAt (amplitudes_in entries) key i
  unfolding IsStrictlySortedBy
  found_at [] key i s low h = absurd (omega arith)
  found_at (e ∷ es) key zero s low h = sym (exact_bytes (key_of e) key (h e))
  found_at (e ∷ es) key (suc i) s low h =
      let later = found_at es key i s.1 (omega arith) h in
      let above = all_at (λ k. key_cmp (key_of e) k ≡ Less) (amplitudes_in es) key i s.0 later in
      (turned_round (key_of e) key Less (ap (key_cmp (key_of e)) above.2 ∙ above.1), later)

  pub gap_at : (entries : List (Entry R E)) (key : List ℕ) (i : ℕ) → i ≤ length entries
      → ((k : ℕ) (d : Entry R E) → k < i → key_cmp (key_of (get_or entries k d)) key ≡ Less)
      → ((k : ℕ) (d : Entry R E) → i ≤ k → k < length entries → key_cmp (key_of (get_or entries k d)) key ≡ Greater) → IsGap (amplitudes_in entries) key i
  gap_at [] key zero low before after = tt
  gap_at [] key (suc i) low before after = absurd (omega arith)
  gap_at (e ∷ es) key zero low before after = turned_round (key_of e) key Greater (after 0 e (omega arith) (omega arith))
  gap_at (e ∷ es) key (suc i) low before after = (
    turned_round (key_of e) key Less (before 0 e (omega arith)),
    gap_at es key i (omega arith) (λ k d l. before (suc k) d (omega arith)) (λ k d l m. after (suc k) d (omega arith) (omega arith)),
  )

  -- of two keys the one at the earlier place is smaller
  first_below : (e : Entry R E) (es : List (Entry R E)) (i : ℕ) (d : Entry R E) → i < length es → AllByRecursion (λ k. key_cmp (key_of e) k ≡ Less) (keys_of (amplitudes_in es))
      → key_cmp (key_of e) (key_of (get_or es i d)) ≡ Less
  first_below e [] i d low all = absurd (omega arith)
  first_below e (f ∷ es) zero d low all = all.0
  first_below e (f ∷ es) (suc i) d low all = first_below e es i d (omega arith) all.1

  pub earlier : (entries : List (Entry R E)) (j i : ℕ) (d : Entry R E) → IsStrictlySortedBy key_cmp (keys_of (amplitudes_in entries)) → j < i → i < length entries
      → key_cmp (key_of (get_or entries j d)) (key_of (get_or entries i d)) ≡ Less
  unfolding IsStrictlySortedBy
  earlier [] j i d s below low = absurd (omega arith)
  earlier (e ∷ es) j zero d s below low = absurd (omega arith)
  earlier (e ∷ es) zero (suc i) d s below low = first_below e es i d (omega arith) s.0
  earlier (e ∷ es) (suc j) (suc i) d s below low = earlier es j i d s.1 (omega arith) (omega arith)

  -- a probe in the middle
  pub lower_half : (entries : List (Entry R E)) (key : List ℕ) (i : ℕ) (e : Entry R E) → IsStrictlySortedBy key_cmp (keys_of (amplitudes_in entries)) → i < length entries
      → key_cmp (key_of (get_or entries i e)) key ≡ Less → (k : ℕ) (d : Entry R E) → k < i + 1 → key_cmp (key_of (get_or entries k d)) key ≡ Less
  lower_half entries key i e s low less k d below =
      let here : key_cmp (key_of (get_or entries i d)) key ≡ Less = ap (λ (x : Entry R E). key_cmp (key_of x) key) (get_or_default entries i d e low) ∙ less in
      elim (leb_tells i k) [
        | inl last ↦ let same : k ≡ i = omega arith in ap (λ j. key_cmp (key_of (get_or entries j d)) key) same ∙ here
        | inr before ↦ IsTotalOrder.trans nat_list_cmp_total (key_of (get_or entries k d)) (key_of (get_or entries i d)) key (earlier entries k i d s (omega arith) low) here
      ]

  pub upper_half : (entries : List (Entry R E)) (key : List ℕ) (i : ℕ) (e : Entry R E) → IsStrictlySortedBy key_cmp (keys_of (amplitudes_in entries)) → i < length entries
      → key_cmp (key_of (get_or entries i e)) key ≡ Greater → (k : ℕ) (d : Entry R E) → i ≤ k → k < length entries → key_cmp (key_of (get_or entries k d)) key ≡ Greater
  upper_half entries key i e s low more k d from below =
      let here : key_cmp (key_of (get_or entries i d)) key ≡ Greater = ap (λ (x : Entry R E). key_cmp (key_of x) key) (get_or_default entries i d e low) ∙ more in
      elim (leb_tells k i) [
        | inl first ↦ let same : k ≡ i = omega arith in ap (λ j. key_cmp (key_of (get_or entries j d)) key) same ∙ here
        | inr after ↦
            turned_round key (key_of (get_or entries k d)) Less
            (IsTotalOrder.trans nat_list_cmp_total key (key_of (get_or entries i d)) (key_of (get_or entries k d)) (turned_round (key_of (get_or entries i d)) key Greater here) (earlier entries i k d s (omega arith) below))
      ]

  pub at_below : (entries : List (Entry R E)) (key : List ℕ) (i : ℕ) → IsAt (amplitudes_in entries) key i → i < length entries
  at_below [] key i h = absurd h
  at_below (e ∷ es) key zero h = omega arith
  at_below (e ∷ es) key (suc i) h = let low = at_below es key i h.1 in omega (arith, low)

  pub gap_below : (entries : List (Entry R E)) (key : List ℕ) (i : ℕ) → IsGap (amplitudes_in entries) key i → i ≤ length entries
  gap_below [] key zero h = omega arith
  gap_below [] key (suc i) h = absurd h
  gap_below (e ∷ es) key zero h = omega arith
  gap_below (e ∷ es) key (suc i) h = let low = gap_below es key i h.1 in omega (arith, low)

  pub found_value : (entries : List (Entry R E)) (key : List ℕ) (i : ℕ) (d : Entry R E) → IsAt (amplitudes_in entries) key i → d ≡ get_or entries i d → Some d.value.value ≡ amplitude_at (amplitudes_in entries) key
  found_value [] key i d h is = absurd h
  found_value (e ∷ es) key zero d h is = ap (λ (x : Entry R E). Some x.value.value) is ∙ sym (ap (λ b. if b then Some e.value.value else amplitude_at (amplitudes_in es) key) ((bytes_eq-Decides key (key_of e)).1 h))
  found_value (e ∷ es) key (suc i) d h is =
      found_value es key i d h.1 is ∙ sym (ap (λ b. if b then Some e.value.value else amplitude_at (amplitudes_in es) key) (not_this key (key_of e) Greater h.0 refl))

  none_after : (es : List (Entry R E)) (key a : List ℕ) → key_cmp key a ≡ Less → AllByRecursion (λ k. key_cmp a k ≡ Less) (keys_of (amplitudes_in es)) → None ≡ amplitude_at (amplitudes_in es) key
  none_after [] key a h all = refl
  none_after (e ∷ es) key a h all =
      none_after es key a h all.1
      ∙ sym (ap (λ b. if b then Some e.value.value else amplitude_at (amplitudes_in es) key) (not_this key (key_of e) Less (IsTotalOrder.trans nat_list_cmp_total key a (key_of e) h all.0) refl))

  pub found_nothing : (entries : List (Entry R E)) (key : List ℕ) (i : ℕ) → IsStrictlySortedBy key_cmp (keys_of (amplitudes_in entries)) → IsGap (amplitudes_in entries) key i → None ≡ amplitude_at (amplitudes_in entries) key
  unfolding IsStrictlySortedBy
  found_nothing [] key i s h = refl
  found_nothing (e ∷ es) key zero s h =
      none_after es key (key_of e) h s.0
      ∙ sym (ap (λ b. if b then Some e.value.value else amplitude_at (amplitudes_in es) key) (not_this key (key_of e) Less h refl))
  found_nothing (e ∷ es) key (suc i) s h =
      found_nothing es key i s.1 h.1 ∙ sym (ap (λ b. if b then Some e.value.value else amplitude_at (amplitudes_in es) key) (not_this key (key_of e) Greater h.0 refl))
