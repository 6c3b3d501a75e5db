-- A raised state is one of the engine, and stands for the same.
use Rattle.std.proofs.Common.{◌≡◌, ℕ, suc, ◌+◌, ◌-◌, ◌<◌, ◌≤◌, Bool, true, false, ◌||◌, not, List, [], ◌∷◌, map, length, get_or, Option, Some, None, unwrap_or, ◌⊎◌, inl, inr, refl, ap, sym, ◌∙◌, subst, arith}
use mathlib.Core.Path.{fun_ext}
use Rattle.std.specs.Prelude.{if◌then◌else◌, ◌&&◌, IsTrue, slice_index}
use Rattle.std.specs.Str.{bytes_eq}
use Rattle.std.specs.List.{AllByRecursion, filter}
use Rattle.std.specs.List.Sorted.{IsStrictlySortedBy}
use Rattle.std.specs.Map.{keys_of}
use Rattle.std.proofs.lemmas.Bool.Decides.{leb_tells}
use Rattle.std.proofs.lemmas.List.Elements.{All-from_recursion}
use Rattle.ring_laws.specs.Ring.{RingLaws}
use Rattle.ring_laws.proofs.SumLemmas as S
use Rattle.ring_laws.proofs.StatedLemmas.{some_inj}
use Rattle.symbol_table.specs.AllLabels.{IsProper, HasEquations}
use Rattle.symbol_table.specs.Symbols.{Symbols, f_admissible}
use Rattle.tree_shapes.specs.Outlines.{size, raise_at}
use Rattle.amp_store.specs.Amplitudes.{AreAmplitudes, amplitude_at, amplitude_of, key_cmp}
use Rattle.amp_store.specs.Gathered.{among, gathered, kept_of}
use Rattle.amp_store.proofs.AmongLemmas.{any_turned}
use Rattle.amp_store.proofs.EditLemmas.{eq_turned}
use Rattle.amp_store.proofs.GatherLemmas.{same_key}
use Rattle.amp_store.proofs.OrderLemmas.{sorted_filter}
use Rattle.comb_laws.specs.Plans.{words}
use Rattle.run_laws.proofs.OrderLemmas.{any_in, words_are_all}
use Rattle.recouple.specs.Rotations.{IsKey, IsRotation, before, after, from_left, rotation_of}
use Rattle.recouple.specs.Raises.{AreOver, factor, has_factor, raise_term, raised}
use Rattle.recouple.specs.States.{State, IsStateOf, raise_by, raise_of}
use Rattle.recouple.proofs.KeyLemmas.{after_before, after_key, long_before}
use Rattle.recouple.proofs.RotationLemmas.{no_rotation}
use Rattle.recouple.proofs.StateLemmas as R
use Rattle.tree_shapes.proofs.ContextLemmas.{size_above}
use Rattle.runner.specs.Trees.{entries_of, raised_state}
use Rattle.runner.specs.Meaning.{StandsFor}
use Rattle.runner.specs.Entries.{counts, entries_are, filtered, key_there, with_number, words_rise}

-- the entries of a number of each key
module _ {E : Type 0} (c : Symbols E) (v : List ℕ → E) where
  -- what is at a key among entries
  pub at_entries : (ws : List (List ℕ)) (key : List ℕ) → amplitude_at (filter (λ (e : List ℕ × E). not (c.held.is_zero e.1)) (map (with_number c v) ws)) key ≡ gathered c.held v ws key
  at_entries [] key = refl
  at_entries (w ∷ ws) key = pick (c.held.is_zero (v w)) (bytes_eq w key) (bytes_eq key w) refl refl refl (at_entries ws key)
    where
      kept_at : (b : Bool) → c.held.is_zero (v w) ≡ b → w ≡ key → kept_of c.held (v key) ≡ (if b then None else Some (v w))
      kept_at b is same = ap (λ k. kept_of c.held (v k)) (sym same) ∙ ap (λ d. if d then None else Some (v w)) is

      none_or : (b : Bool) → ◌≡◌ {A = Option E} (if b then None else None) None
      none_or true = refl
      none_or false = refl

      pick : (z b d : Bool) → c.held.is_zero (v w) ≡ z → bytes_eq w key ≡ b → bytes_eq key w ≡ d
          → amplitude_at (filter (λ (e : List ℕ × E). not (c.held.is_zero e.1)) (map (with_number c v) ws)) key ≡ (if among key ws then kept_of c.held (v key) else None)
          → amplitude_at (if not z then with_number c v w ∷ filter (λ (e : List ℕ × E). not (c.held.is_zero e.1)) (map (with_number c v) ws) else filter (λ (e : List ℕ × E). not (c.held.is_zero e.1)) (map (with_number c v) ws)) key
          ≡ (if b || among key ws then kept_of c.held (v key) else None)
      pick true true d z b e h = h ∙ (ap (λ o. if among key ws then o else None) (kept_at true z (same_key w key b)) ∙ (none_or (among key ws) ∙ sym (kept_at true z (same_key w key b))))
      pick true false d z b e h = h
      pick false true true z b e h = rw e (sym (kept_at false z (same_key w key b)))
      pick false true false z b e h = absurd (let both : bytes_eq w key ≡ bytes_eq key w = eq_turned w key in let clash : true ≡ false = sym b ∙ (both ∙ e) in cc)
      pick false false true z b e h = absurd (let both : bytes_eq w key ≡ bytes_eq key w = eq_turned w key in let clash : true ≡ false = sym e ∙ (sym both ∙ b) in cc)
      pick false false false z b e h = rw e h

  keys_with : (ws : List (List ℕ)) → keys_of (map (with_number c v) ws) ≡ ws
  keys_with [] = refl
  keys_with (w ∷ ws) = ap (λ l. w ∷ l) (keys_with ws)

  nonzero_kept : (es : List (List ℕ × E)) → AllByRecursion (λ (e : List ℕ × E). c.held.is_zero e.1 ≡ false) (filter (λ (e : List ℕ × E). not (c.held.is_zero e.1)) es)
  nonzero_kept [] = tt
  nonzero_kept (e ∷ es) = pick (c.held.is_zero e.1) refl (nonzero_kept es)
    where
      pick : (z : Bool) → c.held.is_zero e.1 ≡ z → AllByRecursion (λ (d : List ℕ × E). c.held.is_zero d.1 ≡ false) (filter (λ (d : List ℕ × E). not (c.held.is_zero d.1)) es)
          → AllByRecursion (λ (d : List ℕ × E). c.held.is_zero d.1 ≡ false) (if not z then e ∷ filter (λ (d : List ℕ × E). not (c.held.is_zero d.1)) es else filter (λ (d : List ℕ × E). not (c.held.is_zero d.1)) es)
      pick true is rest = rest
      pick false is rest = (is, rest)

  pub entries_order : (n : ℕ) → AreAmplitudes c.held (entries_of c n v)
  entries_order n = record {
    ordered =
        subst (IsStrictlySortedBy key_cmp) (sym (ap keys_of (filtered c v (words c.count (n - 1))) ∙ keys_with (filter (counts c v) (words c.count (n - 1)))))
        (sorted_filter (counts c v) (words c.count (n - 1)) (words_rise c.count (n - 1)));
    nonzero = nonzero_kept (map (with_number c v) (words c.count (n - 1)));
  }

  gathered_some : (b : Bool) (x w : E) (z : Bool) → c.held.is_zero x ≡ z → (if b then (if z then None else Some x) else None) ≡ Some w → (b ≡ true) × (w ≡ x)
  gathered_some true x w true is e = absurd (cc)
  gathered_some true x w false is e = (refl, sym (some_inj x w e))
  gathered_some false x w z is e = absurd (cc)

  low_all : (w : List ℕ) → ((p : ℕ) → p < length w → slice_index w p < c.count) → AllByRecursion (λ l. l < c.count) w
  low_all [] h = tt
  low_all (x ∷ w) h = (h 0 (omega arith), low_all w (λ p low. h (suc p) (omega arith)))

  -- a word is a key
  there_key : (n : ℕ) (key : List ℕ) → 0 < n → among key (words c.count (n - 1)) ≡ true → IsKey c.count n key
  there_key n key some h =
      let full = (words_are_all c.count (n - 1)).full key (any_in key (words c.count (n - 1)) (any_turned key (words c.count (n - 1)) ∙ h)) in
      let long : length key ≡ n - 1 = full.long in
      record {
        long = omega arith;
        labels = All-from_recursion (λ l. l < c.count) key (low_all key (λ p low. full.label p (omega arith)));
      }

  pub entries_over : (n : ℕ) → 0 < n → ((key : List ℕ) → IsTrue (c.ring.member (v key))) → AreOver c.ring c.count n (entries_of c n v)
  entries_over n some members = record {
    members = λ key w e.
        let found = gathered_some (among key (words c.count (n - 1))) (v key) w (c.held.is_zero (v key)) refl (sym (at_entries (words c.count (n - 1)) key) ∙ e) in
        subst (λ x. IsTrue (c.ring.member x)) (sym found.1) (members key);
    keys = λ key w e.
        let found = gathered_some (among key (words c.count (n - 1))) (v key) w (c.held.is_zero (v key)) refl (sym (at_entries (words c.count (n - 1)) key) ∙ e) in
        there_key n key some found.0;
  }

  -- where a number is zero off the words, the entries have each number
  pub entries_known : RingLaws c.ring c.held → (n : ℕ) → ((key : List ℕ) → IsTrue (c.ring.member (v key))) → ((key : List ℕ) → among key (words c.count (n - 1)) ≡ false → v key ≡ c.ring.zero)
      → amplitude_of c.ring (entries_of c n v) ≡ v
  entries_known laws n members off = fun_ext (λ key. ap (λ o. unwrap_or o c.ring.zero) (at_entries (words c.count (n - 1)) key) ∙ pick key (among key (words c.count (n - 1))) (c.held.is_zero (v key)) refl refl)
    where
      pick : (key : List ℕ) (b z : Bool) → among key (words c.count (n - 1)) ≡ b → c.held.is_zero (v key) ≡ z → unwrap_or (if b then (if z then None else Some (v key)) else None) c.ring.zero ≡ v key
      pick key true true there is = sym ((laws.is_zero_is (v key) (members key)).0 is)
      pick key true false there is = refl
      pick key false z there is = sym (off key there)

some_or_none : {A : Type 0} (o : Option A) → (o ≡ None) ⊎ ((x : A) × (o ≡ Some x))
some_or_none None = inl refl
some_or_none (Some x) = inr (x, refl)

-- a raise makes nothing where there is no key
module _ {E : Type 0} (c : Symbols E) (laws : RingLaws c.ring c.held) (proper : IsProper c) where
  fuses_low : (a b u : ℕ) → c.count ≤ u → c.fuse a b u ≡ false
  fuses_low a b u high = pick (c.fuse a b u) refl
    where
      pick : (f : Bool) → c.fuse a b u ≡ f → c.fuse a b u ≡ false
      pick true is = absurd (let below : u < c.count = (proper.labels a b u is).2 in omega arith)
      pick false is = is

  off_third : (a b d e : Bool) → d ≡ false → (a && (b && (d && e))) ≡ false
  off_third true true d e h = ap (λ x. x && e) h
  off_third true false d e h = refl
  off_third false b d e h = refl

  off_by : (left : Bool) (a b m d t u : ℕ) → (if left then f_admissible c.fuse a b m d t u else f_admissible c.fuse a b m d u t) ≡ false → (if left then c.f a b m d t u else c.h a b m d t u) ≡ c.ring.zero
  off_by true a b m d t u h = proper.f_off a b m d t u h
  off_by false a b m d t u h = proper.h_off a b m d t u h

  high_by : (left : Bool) (a b m d t u : ℕ) → c.count ≤ u → (if left then f_admissible c.fuse a b m d t u else f_admissible c.fuse a b m d u t) ≡ false
  high_by true a b m d t u high = off_third (c.fuse a b t) (c.fuse t m d) (c.fuse b m u) (c.fuse a u d) (fuses_low b m u high)
  high_by false a b m d t u high = ap (λ x. x && (c.fuse u m d && (c.fuse b m t && c.fuse a t d))) (fuses_low a b u high)

  module _ (strands : List ℕ) (rotation : _) where
    factor_off : (key : List ℕ) (t : ℕ) → has_factor c strands rotation key t ≡ false → factor c strands rotation key t ≡ c.ring.zero
    factor_off key t h = off_by (from_left rotation) _ _ _ _ _ _ h

    module _ (is : IsRotation (length strands) rotation) (es : List (List ℕ × E)) (over : AreOver c.ring c.count (length strands) es) where
      abbrev keys : List (List ℕ)
      keys = words c.count (length strands - 1)

      none_there : (x : List ℕ) (t : ℕ) → get_or x (rotation.parent - 1) 0 < c.count → among x (words c.count (length strands - 1)) ≡ false → amplitude_at es (before rotation x t) ≡ None
      none_there x t below none =
          elim (some_or_none (amplitude_at es (before rotation x t))) [
            | inl e ↦ e
            | inr there ↦
                let key = over.keys (before rotation x t) there.0 there.1 in
                let long : length strands ≡ length x + 1 = key.long ∙ ap (λ m. m + 1) (long_before rotation x t) in
                let same : after rotation (before rotation x t) (get_or x (rotation.parent - 1) 0) ≡ x = after_before (length strands) rotation x t is long in
                let here : IsKey c.count (length strands) x = subst (IsKey c.count (length strands)) same (after_key c.count (length strands) rotation (before rotation x t) (get_or x (rotation.parent - 1) 0) is key below) in
                let clash : true ≡ false = sym (key_there c.count (length strands) x here) ∙ none in
                absurd (cc)
          ]

      term_nothing : (x : List ℕ) (t : ℕ) → among x (words c.count (length strands - 1)) ≡ false → raise_term c strands rotation (amplitude_of c.ring es) x t ≡ c.ring.zero
      term_nothing x t none =
          elim (leb_tells c.count (get_or x (rotation.parent - 1) 0)) [
            | inl high ↦ ap (λ f. c.ring.product f (amplitude_of c.ring es (before rotation x t))) (factor_off x t (high_by (from_left rotation) _ _ _ _ t (get_or x (rotation.parent - 1) 0) high.1)) ∙ S.zero-product laws _
            | inr below ↦ ap (λ o. c.ring.product (factor c strands rotation x t) (unwrap_or o c.ring.zero)) (none_there x t below.1 none) ∙ laws.product-zero _
          ]

      pub raised_nothing : (x : List ℕ) → among x (words c.count (length strands - 1)) ≡ false → raised c strands rotation (amplitude_of c.ring es) x ≡ c.ring.zero
      raised_nothing x none = S.total_none laws c.count (raise_term c strands rotation (amplitude_of c.ring es) x) (λ t _. term_nothing x t none)

-- the state after a raise
module _ {E : Type 0} (c : Symbols E) (laws : RingLaws c.ring c.held) (proper : IsProper c) (equations : HasEquations c) (n k : ℕ) (low : 0 < k) (high : k < n)
    (s : State E) (v : List ℕ × (List ℕ → E)) (stands : StandsFor c n s v) where
  abbrev is : IsStateOf c s
  is = stands.of.of

  inside : k < size s.shape
  inside = omega (arith, high, is.leaves, stands.of.long)

  still : rotation_of s.shape k ≡ None → StandsFor c n (raised_state c k s) v
  still none =
      let amps_are : s.amps ≡ entries_of c (length s.strands) (raise_of c k s) =
      entries_are c laws s is stands.amps ∙ ap (λ o. entries_of c (length s.strands) (raise_by c s.strands o (amplitude_of c.ring s.amps))) (sym none) in
      let same : s ≡ raised_state c k s = λ j. record { strands = s.strands; shape = sym (no_rotation s.shape k low inside none) j; amps = amps_are j } in
      subst (λ x. StandsFor c n x v) same stands

  moved : (rotation : _) → rotation_of s.shape k ≡ Some rotation → StandsFor c n (raised_state c k s) v
  moved rotation there =
      let strands = s.strands in
      let old = amplitude_of c.ring s.amps in
      let new = entries_of c (length s.strands) (raised c s.strands rotation (amplitude_of c.ring s.amps)) in
      let fits : IsRotation (length s.strands) rotation = R.rotation_fits c s is k low inside rotation there in
      let members = λ (key : List ℕ). S.total_is laws c.count (raise_term c s.strands rotation (amplitude_of c.ring s.amps) key) in
      let some : 0 < length s.strands = omega (arith, is.leaves, size_above s.shape) in
      let order = entries_order c (raised c s.strands rotation (amplitude_of c.ring s.amps)) (length s.strands) in
      let over = entries_over c (raised c s.strands rotation (amplitude_of c.ring s.amps)) (length s.strands) some members in
      let equal = entries_known c (raised c s.strands rotation (amplitude_of c.ring s.amps)) laws (length s.strands) members (raised_nothing c laws proper s.strands rotation fits s.amps is.over) in
      let same : R.after c s is k low inside rotation there new ≡ raised_state c k s =
      λ j. record { strands = s.strands; shape = raise_at k s.shape 0; amps = entries_of c (length s.strands) (raise_by c s.strands (sym there j) (amplitude_of c.ring s.amps)) } in
      subst (λ x. StandsFor c n x v) same
      (record {
        of = record { of = R.of_after c s is k low inside rotation there laws (factor_off c laws proper s.strands rotation) new order over equal; long = stands.of.long };
        amps = order;
        is = stands.is ∙ (λ j. (s.strands, sym (R.comb_after c s is k low inside rotation there laws proper equations new stands.amps order over equal) j));
      })

  -- a raise keeps what a state stands for
  pub raise_means : StandsFor c n (raised_state c k s) v
  raise_means = pick (rotation_of s.shape k) refl
    where
      pick : (o : Option _) → rotation_of s.shape k ≡ o → StandsFor c n (raised_state c k s) v
      pick None none = still none
      pick (Some rotation) there = moved rotation there
