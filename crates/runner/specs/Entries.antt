-- The amplitudes of a state are the entries of their own numbers.
use Rattle.std.proofs.Common.{◌≡◌, ℕ, zero, suc, ◌-◌, ◌<◌, Bool, true, false, ◌||◌, not, List, [], ◌∷◌, map, length, Option, Some, None, unwrap_or, refl, ap, sym, ◌∙◌, subst, arith}
use Rattle.std.specs.Prelude.{if◌then◌else◌, ◌&&◌, is_some, slice_get}
use Rattle.std.specs.Str.{bytes_eq}
use Rattle.std.specs.List.{AllByRecursion, filter, list_any}
use Rattle.std.specs.List.Sorted.{IsStrictlySortedBy}
use Rattle.std.specs.Map.{keys_of}
use Rattle.std.proofs.lemmas.List.Elements.{recursion_from_All}
use Rattle.ring_laws.specs.Ring.{RingLaws}
use Rattle.symbol_table.specs.Symbols.{Symbols}
use Rattle.amp_store.specs.Amplitudes.{AreAmplitudes, amplitude_at, amplitude_of, key_cmp}
use Rattle.amp_store.specs.Gathered.{among}
use Rattle.amp_store.proofs.AmongLemmas.{among_labels, among_put, and_false_right, any_turned, filter_any}
use Rattle.amp_store.proofs.EditLemmas.{nonzero_in}
use Rattle.amp_store.proofs.OrderLemmas.{CountsUp, in_order, same_in_order, sorted_filter, sorted_put, starts_put}
use Rattle.comb_laws.specs.Paths.{labels}
use Rattle.comb_laws.specs.Plans.{words}
use Rattle.recouple.specs.Rotations.{IsKey}
use Rattle.recouple.specs.States.{State, IsStateOf}
use Rattle.recouple.proofs.EntryLemmas.{entry_is}
use Rattle.runner.specs.Trees.{entries_of}

labels_up : CountsUp labels
labels_up = record { none = refl; more = λ n. refl }

-- the words stand in the order of lists of labels
pub words_rise : (count m : ℕ) → IsStrictlySortedBy key_cmp (words count m)
unfolding IsStrictlySortedBy
words_rise count zero = (tt, tt)
words_rise count (suc m) =
    (in_order labels labels_up (λ q. map (λ word. q ∷ word) (words count m)) (λ q. sorted_put q (words count m) (words_rise count m)) (λ q. starts_put q (words count m)) count).sorted

-- labels below the count are a word
word_there : (count : ℕ) (key : List ℕ) → AllByRecursion (λ l. l < count) key → among key (words count (length key)) ≡ true
word_there count [] below = refl
word_there count (l ∷ key) below =
    among_labels labels labels_up (l ∷ key) (λ q. map (λ word. q ∷ word) (words count (length key))) count l below.0
    (among_put l key (words count (length key)) (word_there count key below.1))

-- a key is a word
pub key_there : (count n : ℕ) (key : List ℕ) → IsKey count n key → among key (words count (n - 1)) ≡ true
key_there count n key is =
    let long : length key ≡ n - 1 = omega (arith, is.long) in
    subst (λ (m : ℕ). among key (words count m) ≡ true) long (word_there count key (recursion_from_All (λ l. l < count) key is.labels))

keys_any : {E : Type 0} (es : List (List ℕ × E)) (q : List ℕ) → list_any (λ k. bytes_eq q k) (keys_of es) ≡ is_some (amplitude_at es q)
keys_any [] q = refl
keys_any {E} (e ∷ es) q = pick (bytes_eq q e.0) (keys_any es q)
  where
    pick : (b : Bool) → list_any (λ k. bytes_eq q k) (keys_of es) ≡ is_some (amplitude_at es q) → (b || list_any (λ k. bytes_eq q k) (keys_of es)) ≡ is_some (if b then Some e.1 else amplitude_at es q)
    pick true h = refl
    pick false h = h

module _ {E : Type 0} (c : Symbols E) (v : List ℕ → E) where
  abbrev pub counts : List ℕ → Bool
  counts key = not (c.held.is_zero (v key))

  abbrev pub with_number : List ℕ → List ℕ × E
  with_number key = (key, v key)

  -- entries are keys that count, each with its number
  pub filtered : (ws : List (List ℕ)) → filter (λ (e : List ℕ × E). not (c.held.is_zero e.1)) (map with_number ws) ≡ map with_number (filter counts ws)
  filtered [] = refl
  filtered (w ∷ ws) = pick (counts w) (filtered ws)
    where
      pick : (b : Bool) → filter (λ (e : List ℕ × E). not (c.held.is_zero e.1)) (map with_number ws) ≡ map with_number (filter counts ws)
          → (if b then with_number w ∷ filter (λ (e : List ℕ × E). not (c.held.is_zero e.1)) (map with_number ws) else filter (λ (e : List ℕ × E). not (c.held.is_zero e.1)) (map with_number ws))
          ≡ map with_number (if b then w ∷ filter counts ws else filter counts ws)
      pick true h = ap (λ l. with_number w ∷ l) h
      pick false h = h

  with_own : (es : List (List ℕ × E)) → ((i : ℕ) (e : List ℕ × E) → slice_get es i ≡ Some e → v e.0 ≡ e.1) → map with_number (keys_of es) ≡ es
  with_own [] own = refl
  with_own (e ∷ es) own = λ j. (e.0, own 0 e refl j) ∷ with_own es (λ i d h. own (suc i) d h) j

module _ {E : Type 0} (c : Symbols E) (laws : RingLaws c.ring c.held) (s : State E) (is : IsStateOf c s) (order : AreAmplitudes c.held s.amps) where
  abbrev v : List ℕ → E
  v = amplitude_of c.ring s.amps

  abbrev keys : List (List ℕ)
  keys = words c.count (length s.strands - 1)

  same_any : (q : List ℕ) → list_any (λ k. bytes_eq q k) (filter (counts c v) keys) ≡ list_any (λ k. bytes_eq q k) (keys_of s.amps)
  same_any q = filter_any (counts c v) q keys ∙ (pick (amplitude_at s.amps q) refl ∙ sym (keys_any s.amps q))
    where
      pick : (o : Option E) → amplitude_at s.amps q ≡ o → (list_any (λ k. bytes_eq q k) keys && not (c.held.is_zero (unwrap_or o c.ring.zero))) ≡ is_some o
      pick None e =
          ap (λ b. list_any (λ k. bytes_eq q k) keys && not b) ((laws.is_zero_is c.ring.zero laws.zero_is).1 refl)
          ∙ and_false_right (list_any (λ k. bytes_eq q k) keys)
      pick (Some a) e =
          λ j. (any_turned q keys ∙ key_there c.count (length s.strands) q (is.over.keys q a e)) j && not (nonzero_in c.held s.amps q a order.nonzero e j)

  keys_are : filter (counts c v) keys ≡ keys_of s.amps
  keys_are =
      same_in_order (filter (counts c v) keys) (keys_of s.amps) (sorted_filter (counts c v) keys (words_rise c.count (length s.strands - 1))) order.ordered same_any

  pub entries_are : s.amps ≡ entries_of c (length s.strands) (amplitude_of c.ring s.amps)
  entries_are =
      sym (filtered c v keys ∙ (ap (map (with_number c v)) keys_are ∙ with_own c v s.amps (λ i e there. ap (λ o. unwrap_or o c.ring.zero) (entry_is c s is order i e there))))
