-- Amplitudes at small values: two or three keys of one or two labels, with whole numbers.
use Rattle.std.proofs.Common.{◌≡◌, ℕ, ℤ, true, false, pos, List, [], ◌∷◌, Some, None, refl}
use Rattle.std.specs.List.{filter}
use Rattle.std.specs.List.Sorted.{IsStrictlySortedBy}
use Rattle.std.specs.BTreeMap.{insert_entry}
use Rattle.std.specs.Prelude.{◌==◌, slice_index}
use Rattle.std.specs.declared.cmp.Ordering.TheVariants.{Less, Equal, Greater}
use Rattle.ring_laws.specs.Whole.{whole_ring, whole_held}
use Rattle.amp_store.specs.Amplitudes.{key_cmp, amplitude_at, amplitude_of, AreAmplitudes}
use Rattle.amp_store.specs.Places.{IsAt, IsGap}

-- the first label that differs decides, and a key comes before what it begins
by_first_label : key_cmp (0 ∷ 2 ∷ []) (1 ∷ []) ≡ Less
by_first_label = refl

by_next_label : key_cmp (1 ∷ 3 ∷ 0 ∷ []) (1 ∷ 2 ∷ 9 ∷ []) ≡ Greater
by_next_label = refl

begun_is_less : key_cmp (1 ∷ []) (1 ∷ 0 ∷ []) ≡ Less
begun_is_less = refl

same_is_equal : key_cmp (1 ∷ 2 ∷ []) (1 ∷ 2 ∷ []) ≡ Equal
same_is_equal = refl

abbrev two : List (List ℕ × ℤ)
two = (0 ∷ 2 ∷ [], pos 7) ∷ (1 ∷ 0 ∷ [], pos 5) ∷ []

abbrev three : List (List ℕ × ℤ)
three = (0 ∷ 2 ∷ [], pos 7) ∷ (1 ∷ 0 ∷ [], pos 5) ∷ (1 ∷ 1 ∷ [], pos 3) ∷ []

first_of_two : amplitude_at two (0 ∷ 2 ∷ []) ≡ Some (pos 7)
first_of_two = refl

second_of_two : amplitude_at two (1 ∷ 0 ∷ []) ≡ Some (pos 5)
second_of_two = refl

not_of_two : amplitude_at two (1 ∷ []) ≡ None
not_of_two = refl

number_of_one : amplitude_of whole_ring two (1 ∷ 0 ∷ []) ≡ pos 5
number_of_one = refl

number_of_none : amplitude_of whole_ring two (2 ∷ 0 ∷ []) ≡ pos 0
number_of_none = refl

-- three puts out of order, and one more of a key that is there
put_in_order : insert_entry key_cmp (insert_entry key_cmp (insert_entry key_cmp [] (1 ∷ 1 ∷ []) (pos 3)) (0 ∷ 2 ∷ []) (pos 7)) (1 ∷ 0 ∷ []) (pos 5) ≡ three
put_in_order = refl

put_replaces : insert_entry key_cmp two (0 ∷ 2 ∷ []) (pos 9) ≡ (0 ∷ 2 ∷ [], pos 9) ∷ (1 ∷ 0 ∷ [], pos 5) ∷ []
put_replaces = refl

kept : filter (λ e. slice_index e.0 0 == 1) three ≡ (1 ∷ 0 ∷ [], pos 5) ∷ (1 ∷ 1 ∷ [], pos 3) ∷ []
kept = refl

in_order : AreAmplitudes whole_held three
unfolding IsStrictlySortedBy
in_order = record { ordered = ((refl, (refl, tt)), ((refl, tt), (tt, tt))); nonzero = (refl, (refl, (refl, tt))) }

out_of_order : AreAmplitudes whole_held ((1 ∷ 0 ∷ [], pos 5) ∷ (0 ∷ 2 ∷ [], pos 7) ∷ []) → ⊥
unfolding IsStrictlySortedBy
out_of_order is = let told : Greater ≡ Less = is.ordered.0.0 in absurd (cc)

twice : AreAmplitudes whole_held ((1 ∷ 0 ∷ [], pos 5) ∷ (1 ∷ 0 ∷ [], pos 7) ∷ []) → ⊥
unfolding IsStrictlySortedBy
twice is = let told : Equal ≡ Less = is.ordered.0.0 in absurd (cc)

with_zero : AreAmplitudes whole_held ((1 ∷ 0 ∷ [], pos 5) ∷ (1 ∷ 1 ∷ [], pos 0) ∷ []) → ⊥
with_zero is = let told : true ≡ false = is.nonzero.1.0 in absurd (cc)

-- places of keys, and of one that isn't there
at_one : IsAt three (1 ∷ 0 ∷ []) 1
at_one = (refl, refl)

gap_of_one : IsGap three (1 ∷ []) 1
gap_of_one = (refl, refl)

gap_behind : IsGap three (1 ∷ 1 ∷ 0 ∷ []) 3
gap_behind = (refl, (refl, (refl, tt)))

no_gap : IsGap three (0 ∷ 2 ∷ []) 0 → ⊥
no_gap h = let told : Equal ≡ Less = h in absurd (cc)
