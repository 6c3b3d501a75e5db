-- What is gathered at all targets is the whole of the new amplitudes.
use Rattle.std.proofs.Common.{◌≡◌, ℕ, zero, suc, ◌+◌, ◌-◌, ◌<◌, ◌≤◌, Bool, true, false, ◌||◌, List, [], ◌∷◌, ◌++◌, length, get_or, take, Option, ◌⊎◌, inl, inr, Some, None, unwrap_or, refl, ap, sym, ◌∙◌, subst, arith}
use mathlib.Core.Path.{fun_ext}
use Rattle.std.specs.Prelude.{is_some, if◌then◌else◌, ◌&&◌, IsTrue, slice_get, nat_lt}
use Rattle.std.specs.Str.{bytes_eq}
use Rattle.std.proofs.lemmas.List.Folds.{list_any-append}
use Rattle.std.proofs.lemmas.Slice.Eq.{bytes_eq-Decides}
use Rattle.std.proofs.lemmas.Bool.Decides.{leb_tells, nat_tests}
use Rattle.ring_laws.specs.Ring.{Ring, Held, RingLaws}
use Rattle.ring_laws.specs.Stated.{add_product_at, steps}
use Rattle.ring_laws.proofs.SumLemmas.{zero-product, total_none, total_is}
use Rattle.ring_laws.proofs.SumLemmas as S
use Rattle.ring_laws.proofs.StatedLemmas.{some_inj}
use Rattle.fusion_rules.specs.Fusion.{Fusion, fuses, stands_at}
use Rattle.symbol_table.specs.Symbols.{Symbols, Given, symbols_of, f_admissible}
use Rattle.amp_store.specs.Amplitudes.{amplitude_at, amplitude_of}
use Rattle.recouple.specs.Rotations.{IsKey, IsRotation, from_left, before, after}
use Rattle.recouple.specs.Raises.{factor, has_factor, raise_term, raise_step, raised, raised_at, AreOver}
use Rattle.recouple.specs.Targets.{key_at, row_from, row_of, target_at, targets_of}
use Rattle.amp_store.specs.Gathered.{kept_of, among, gathered}
use Rattle.recouple.specs.declared.rotation.Rotation.{Rotation}
use Rattle.recouple.proofs.KeyLemmas.{after_before, after_key, label_before, long_before}
use Rattle.amp_store.proofs.GatherLemmas.{same_key, or_true, one_of}
use Rattle.recouple.proofs.ValueLemmas.{factor_off}

-- one more entry of those that are taken
pub take_one : {A : Type 0} (xs : List A) (i : ℕ) (e : A) → slice_get xs i ≡ Some e → take (i + 1) xs ≡ take i xs ++ e ∷ []
take_one [] i e h = absurd (cc)
take_one (x ∷ xs) zero e h = ap (λ y. y ∷ []) (some_inj x e h)
take_one (x ∷ xs) (suc i) e h =
    let more : suc i + 1 ≡ suc (i + 1) = omega arith in
    rw more (ap (λ l. x ∷ l) (take_one xs i e h))

-- the key at a place has an amplitude
has_by : {E : Type 0} (b : Bool) (v : E) (o : Option E) → ((w : E) × (o ≡ Some w)) → (w : E) × ((if b then Some v else o) ≡ Some w)
has_by true v o h = (v, refl)
has_by false v o h = h

pub entry_has : {E : Type 0} (es : List (List ℕ × E)) (i : ℕ) (e : List ℕ × E) → slice_get es i ≡ Some e → (w : E) × (amplitude_at es e.0 ≡ Some w)
entry_has [] i e h = absurd (cc)
entry_has (x ∷ xs) zero e h =
    let same : x ≡ e = some_inj x e h in
    (x.1, ap (λ b. if b then Some x.1 else amplitude_at xs e.0) ((bytes_eq-Decides e.0 x.0).1 (ap (λ (y : List ℕ × _). y.0) (sym same))))
entry_has (x ∷ xs) (suc i) e h = has_by (bytes_eq e.0 x.0) x.1 (amplitude_at xs e.0) (entry_has xs i e h)

-- the key at a place among amplitudes
pub key_there : {E : Type 0} (es : List (List ℕ × E)) (i : ℕ) (e : List ℕ × E) → slice_get es i ≡ Some e → key_at es i ≡ e.0
key_there [] i e h = absurd (cc)
key_there {E} (x ∷ xs) zero e h = ap (λ (y : List ℕ × E). y.0) (some_inj x e h)
key_there (x ∷ xs) (suc i) e h = key_there xs i e h

pub key_has : {E : Type 0} (es : List (List ℕ × E)) (i : ℕ) → i < length es → (w : E) × (amplitude_at es (key_at es i) ≡ Some w)
key_has [] i low = absurd (omega arith)
key_has (x ∷ xs) zero low = (x.1, ap (λ b. if b then Some x.1 else amplitude_at xs x.0) ((bytes_eq-Decides x.0 x.0).1 refl))
key_has (x ∷ xs) (suc i) low = has_by (bytes_eq (key_at xs i) x.0) x.1 (amplitude_at xs (key_at xs i)) (key_has xs i (omega arith))

among_append : (x : List ℕ) (xs ys : List (List ℕ)) → among x (xs ++ ys) ≡ (among x xs || among x ys)
among_append x xs ys = list_any-append (λ y. bytes_eq y x) xs ys

among_one : (b : Bool) (k x : List ℕ) → among x (if b then k ∷ [] else []) ≡ true → k ≡ x
among_one true k x h = elim (one_of (bytes_eq k x) false h) [ inl here ↦ same_key k x here | inr none ↦ absurd (cc) ]
among_one false k x h = absurd (cc)

one_there : (b : Bool) (k : List ℕ) → b ≡ true → among k (if b then k ∷ [] else []) ≡ true
one_there true k h = ap (λ b. b || false) ((bytes_eq-Decides k k).1 refl)
one_there false k h = absurd (cc)

module _ {E : Type 0} (c : Symbols E) (strands : List ℕ) (rotation : Rotation) where
  -- whether the factor from an old key to the label u at the parent is admissible
  abbrev leads : List ℕ → ℕ → Bool
  leads key u = has_factor c strands rotation (after rotation key u) (get_or key (rotation.node - 1) 0)

  -- a key of a row
  row_among : (key : List ℕ) (u a n : ℕ) → a ≤ u → u < a + n → leads key u ≡ true → among (after rotation key u) (row_from c strands rotation a n key) ≡ true
  row_among key u a zero low high is = absurd (omega arith)
  row_among key u a (suc n) low high is =
      among_append (after rotation key u) (target_at c strands rotation key a) (row_from c strands rotation (a + 1) n key)
      ∙ elim (leb_tells u a) [
        | inl here ↦
            let same : a ≡ u = omega arith in
            ap (λ b. b || among (after rotation key u) (row_from c strands rotation (a + 1) n key))
            (ap (λ l. among (after rotation key u) (target_at c strands rotation key l)) same ∙ one_there (leads key u) (after rotation key u) is)
        | inr above ↦ or_true (among (after rotation key u) (target_at c strands rotation key a)) _ (row_among key u (a + 1) n (omega arith) (omega arith) is)
      ]

  row_has : (key x : List ℕ) (a n : ℕ) → among x (row_from c strands rotation a n key) ≡ true → (l : ℕ) × (l < a + n) × (after rotation key l ≡ x)
  row_has key x a zero h = absurd (cc)
  row_has key x a (suc n) h =
      elim (one_of (among x (target_at c strands rotation key a)) (among x (row_from c strands rotation (a + 1) n key)) (sym (among_append x (target_at c strands rotation key a) (row_from c strands rotation (a + 1) n key)) ∙ h)) [
        | inl here ↦ (a, omega arith, among_one (leads key a) (after rotation key a) x here)
        | inr there ↦ let later = row_has key x (a + 1) n there in (later.0, omega (arith, later.1), later.2)
      ]

  -- the keys of a row
  pub row_keys : (n : ℕ) (key x : List ℕ) → IsRotation n rotation → IsKey c.count n key → among x (row_of c strands rotation key) ≡ true → IsKey c.count n x
  row_keys n key x is of h =
      let found = row_has key x 0 c.count h in
      subst (IsKey c.count n) found.2 (after_key c.count n rotation key found.0 is of (omega (arith, found.1)))

  -- an old key that has an amplitude has those new keys among the targets to which its factor is admissible
  target_by : (u : ℕ) (k : List ℕ) (e : List ℕ × E) (es : List (List ℕ × E)) (v : E) (b : Bool) → u < c.count → leads k u ≡ true → bytes_eq k e.0 ≡ b
      → (amplitude_at es k ≡ Some v → among (after rotation k u) (targets_of c strands rotation es) ≡ true) → (if b then Some e.1 else amplitude_at es k) ≡ Some v
      → (among (after rotation k u) (row_of c strands rotation e.0) || among (after rotation k u) (targets_of c strands rotation es)) ≡ true
  target_by u k e es v true low is test rest h =
      ap (λ b. b || among (after rotation k u) (targets_of c strands rotation es))
      (ap (λ l. among (after rotation k u) (row_of c strands rotation l)) (sym (same_key k e.0 test)) ∙ row_among k u 0 c.count (omega arith) (omega arith) is)
  target_by u k e es v false low is test rest h = or_true (among (after rotation k u) (row_of c strands rotation e.0)) _ (rest h)

  pub target_among : (u : ℕ) (k : List ℕ) (es : List (List ℕ × E)) (v : E) → u < c.count → leads k u ≡ true → amplitude_at es k ≡ Some v → among (after rotation k u) (targets_of c strands rotation es) ≡ true
  target_among u k [] v low is h = absurd (cc)
  target_among u k (e ∷ es) v low is h =
      among_append (after rotation k u) (row_of c strands rotation e.0) (targets_of c strands rotation es)
      ∙ target_by u k e es v (bytes_eq k e.0) low is refl (target_among u k es v low is) h

some_or_none : {A : Type 0} (o : Option A) → (o ≡ None) ⊎ ((v : A) × (o ≡ Some v))
some_or_none None = inl refl
some_or_none (Some v) = inr (v, refl)

pub keys_both : (count n : ℕ) (first second : List (List ℕ)) → ((x : List ℕ) → among x first ≡ true → IsKey count n x) → ((x : List ℕ) → among x second ≡ true → IsKey count n x)
    → (x : List ℕ) → among x (first ++ second) ≡ true → IsKey count n x
keys_both count n first second f s x h =
    elim (one_of (among x first) (among x second) (sym (list_any-append (λ y. bytes_eq y x) first second) ∙ h)) [
      | inl earlier ↦ f x earlier
      | inr later ↦ s x later
    ]

off_third : (a b d e : Bool) → d ≡ false → (a && (b && (d && e))) ≡ false
off_third true true d e h = ap (λ x. x && e) h
off_third true false d e h = refl
off_third false b d e h = refl

no_factor : {E : Type 0} (z h : Bool) (n : Option E) (s : E) → h ≡ false → (if z then Some s else (if h then n else Some s)) ≡ Some s
no_factor true h n s e = refl
no_factor false h n s e = ap (λ b. if b then n else Some s) e

steps_same : {E : Type 0} (step : ℕ → E → Option E) → ((t : ℕ) (s : E) → step t s ≡ Some s) → (t n : ℕ) (s : E) → steps step t n s ≡ Some s
steps_same step same t zero s = refl
steps_same step same t (suc n) s = rw (same t s) (steps_same step same (t + 1) n s)

-- only labels below the count fuse
pub fuses_low : (f : Fusion) (a b u : ℕ) → f.count ≤ u → fuses f a b u ≡ false
fuses_low f a b u high = ap (λ x. x && stands_at f.table a b u) (no_labels (nat_lt a f.count) (nat_lt b f.count) (nat_lt u f.count) (not_less u f.count high))
  where
    not_less : (u n : ℕ) → n ≤ u → nat_lt u n ≡ false
    not_less u n h = grind (arith, nat_tests)

    no_labels : (a b d : Bool) → d ≡ false → (a && (b && d)) ≡ false
    no_labels true true d h = h
    no_labels true false d h = refl
    no_labels false b d h = refl

module _ {E : Type 0} {R : Ring E} {H : Held E} (laws : RingLaws R H) (g : Given E) (low : (a b u : ℕ) → g.count ≤ u → g.fuse a b u ≡ false)
    (strands : List ℕ) (rotation : Rotation) (is : IsRotation (length strands) rotation) (es : List (List ℕ × E)) (over : AreOver R g.count (length strands) es) where
  abbrev c : Symbols E
  c = symbols_of R H g

  abbrev v : List ℕ → E
  v = amplitude_of R es

  -- no term for a new key that is no target
  none_there : (x : List ℕ) (t : ℕ) → get_or x (rotation.parent - 1) 0 < g.count → among x (targets_of c strands rotation es) ≡ false
      → (amplitude_at es (before rotation x t) ≡ None) ⊎ (has_factor c strands rotation x t ≡ false)
  none_there x t below none =
      elim (some_or_none (amplitude_at es (before rotation x t))) [
        | inl e ↦ inl e
        | inr there ↦ elim (S.true_or_false (has_factor c strands rotation x t)) [
          | inr off ↦ inr off
          | inl on ↦
              let u = get_or x (rotation.parent - 1) 0 in
              let key = over.keys (before rotation x t) there.0 there.1 in
              let long : length strands ≡ length x + 1 = key.long ∙ ap (λ m. m + 1) (long_before rotation x t) in
              let same : after rotation (before rotation x t) (get_or x (rotation.parent - 1) 0) ≡ x = after_before (length strands) rotation x t is long in
              let label : get_or (before rotation x t) (rotation.node - 1) 0 ≡ t = label_before (length strands) rotation x t is long in
              let leads : has_factor c strands rotation (after rotation (before rotation x t) (get_or x (rotation.parent - 1) 0)) (get_or (before rotation x t) (rotation.node - 1) 0) ≡ true =
              (λ j. has_factor c strands rotation (same j) (label j)) ∙ on in
              let here : among x (targets_of c strands rotation es) ≡ true =
              subst (λ (y : List ℕ). among y (targets_of c strands rotation es) ≡ true) same (target_among c strands rotation u (before rotation x t) es there.0 below leads there.1) in
              absurd (cc)
        ]
      ]

  has_off_by : (left : Bool) (a b m d t u : ℕ) → g.count ≤ u → (if left then f_admissible g.fuse a b m d t u else f_admissible g.fuse a b m d u t) ≡ false
  has_off_by true a b m d t u high = off_third (g.fuse a b t) (g.fuse t m d) (g.fuse b m u) (g.fuse a u d) (low b m u high)
  has_off_by false a b m d t u high = ap (λ x. x && (g.fuse u m d && (g.fuse b m t && g.fuse a t d))) (low a b u high)

  has_off : (x : List ℕ) (t : ℕ) → g.count ≤ get_or x (rotation.parent - 1) 0 → has_factor c strands rotation x t ≡ false
  has_off x t high = has_off_by (from_left rotation) _ _ _ _ t (get_or x (rotation.parent - 1) 0) high

  term_off : (x : List ℕ) (t : ℕ) → has_factor c strands rotation x t ≡ false → raise_term c strands rotation v x t ≡ R.zero
  term_off x t off = ap (λ f. R.product f (v (before rotation x t))) (factor_off laws g strands rotation x t off) ∙ zero-product laws _

  term_nothing : (x : List ℕ) (t : ℕ) → among x (targets_of c strands rotation es) ≡ false → raise_term c strands rotation v x t ≡ R.zero
  term_nothing x t none =
      elim (leb_tells g.count (get_or x (rotation.parent - 1) 0)) [
        | inl high ↦ term_off x t (has_off x t high.1)
        | inr below ↦ elim (none_there x t below.1 none) [
          | inl nothing ↦ ap (λ o. R.product (factor c strands rotation x t) (unwrap_or o R.zero)) nothing ∙ laws.product-zero _
          | inr off ↦ term_off x t off
        ]
      ]

  zero_is_zero : H.is_zero R.zero ≡ true
  zero_is_zero = (laws.is_zero_is R.zero laws.zero_is).1 refl

  step_off : (x : List ℕ) (t : ℕ) (s : E) → has_factor c strands rotation x t ≡ false → raise_step c strands rotation v x t s ≡ Some s
  step_off x t s off = no_factor (H.is_zero (v (before rotation x t))) (has_factor c strands rotation x t) (add_product_at R s (factor c strands rotation x t) (v (before rotation x t))) s off

  step_nothing : (x : List ℕ) (t : ℕ) (s : E) → among x (targets_of c strands rotation es) ≡ false → raise_step c strands rotation v x t s ≡ Some s
  step_nothing x t s none =
      elim (leb_tells g.count (get_or x (rotation.parent - 1) 0)) [
        | inl high ↦ step_off x t s (has_off x t high.1)
        | inr below ↦ elim (none_there x t below.1 none) [
          | inl nothing ↦
              ap (λ z. if z then Some s else (if has_factor c strands rotation x t then add_product_at R s (factor c strands rotation x t) (v (before rotation x t)) else Some s))
              (ap (λ o. H.is_zero (unwrap_or o R.zero)) nothing ∙ zero_is_zero)
          | inr off ↦ step_off x t s off
        ]
      ]

  raised_nothing : (x : List ℕ) → among x (targets_of c strands rotation es) ≡ false → raised c strands rotation v x ≡ R.zero
  raised_nothing x none = total_none laws g.count (raise_term c strands rotation v x) (λ t _. term_nothing x t none)

  pub fits_nothing : (x : List ℕ) → among x (targets_of c strands rotation es) ≡ false → is_some (raised_at c strands rotation v x) ≡ true
  fits_nothing x none = ap is_some (steps_same (raise_step c strands rotation v x) (λ t s. step_nothing x t s none) 0 g.count R.zero)

  pub fits_all : ((x : List ℕ) → among x (targets_of c strands rotation es) ≡ true → is_some (raised_at c strands rotation v x) ≡ true) → (x : List ℕ) → is_some (raised_at c strands rotation v x) ≡ true
  fits_all h x = elim (S.true_or_false (among x (targets_of c strands rotation es))) [ inl there ↦ h x there | inr off ↦ fits_nothing x off ]

  kept_zero : (y : E) → y ≡ R.zero → kept_of H y ≡ None
  kept_zero y e = rw (e, zero_is_zero) refl

  gathered_all : (x : List ℕ) → gathered H (raised c strands rotation v) (targets_of c strands rotation es) x ≡ kept_of H (raised c strands rotation v x)
  gathered_all x =
      elim (S.true_or_false (among x (targets_of c strands rotation es))) [
        | inl there ↦ ap (λ b. if b then kept_of H (raised c strands rotation v x) else None) there
        | inr off ↦ ap (λ b. if b then kept_of H (raised c strands rotation v x) else None) off ∙ sym (kept_zero _ (raised_nothing x off))
      ]

  or_kept : (y : E) (b : Bool) → IsTrue (R.member y) → H.is_zero y ≡ b → unwrap_or (if b then None else Some y) R.zero ≡ y
  or_kept y true m h = sym ((laws.is_zero_is y m).0 h)
  or_kept y false m h = refl

  pub raised_is : (x : List ℕ) → IsTrue (R.member (raised c strands rotation v x))
  raised_is x = total_is laws g.count (raise_term c strands rotation v x)

  -- the new amplitudes are those of the definition
  pub raised_known : (new : List (List ℕ × E)) → ((x : List ℕ) → amplitude_at new x ≡ gathered H (raised c strands rotation v) (targets_of c strands rotation es) x) → amplitude_of R new ≡ raised c strands rotation v
  raised_known new h = fun_ext (λ x. ap (λ o. unwrap_or o R.zero) (h x ∙ gathered_all x) ∙ or_kept (raised c strands rotation v x) (H.is_zero (raised c strands rotation v x)) (raised_is x) refl)

  kept_some : (y w : E) (b : Bool) → H.is_zero y ≡ b → (if b then None else Some y) ≡ Some w → w ≡ y
  kept_some y w true h e = absurd (cc)
  kept_some y w false h e = cc

  gathered_some : (y w : E) (b : Bool) → (if b then kept_of H y else None) ≡ Some w → (b ≡ true) × (w ≡ y)
  gathered_some y w true e = (refl, kept_some y w (H.is_zero y) refl e)
  gathered_some y w false e = absurd (cc)

  -- each new key has a label for each gap
  pub raised_over : (new : List (List ℕ × E)) → ((x : List ℕ) → amplitude_at new x ≡ gathered H (raised c strands rotation v) (targets_of c strands rotation es) x)
      → ((x : List ℕ) → among x (targets_of c strands rotation es) ≡ true → IsKey g.count (length strands) x) → AreOver R g.count (length strands) new
  raised_over new h keys = record {
    members = λ x w e. let found = gathered_some (raised c strands rotation v x) w (among x (targets_of c strands rotation es)) (sym (h x) ∙ e) in ap R.member found.1 ∙ raised_is x;
    keys = λ x w e. keys x (gathered_some (raised c strands rotation v x) w (among x (targets_of c strands rotation es)) (sym (h x) ∙ e)).0;
  }
