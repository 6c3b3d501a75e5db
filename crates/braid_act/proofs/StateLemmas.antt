-- What an exchange at a pair leaves is a state of the category.
use Rattle.std.proofs.Common.{◌≡◌, ◌≢◌, ℕ, ◌+◌, ◌-◌, ◌<◌, Bool, true, false, List, [], ◌∷◌, map, Option, Some, None, length, get_or, set, refl, ap, sym, ◌∙◌, subst, arith, slice_index}
use Rattle.std.specs.Prelude.{IsTrue, if◌then◌else◌, slice_get}
use Rattle.std.specs.Option.{option_map}
use Rattle.std.specs.Str.{bytes_eq}
use Rattle.std.proofs.lemmas.List.Elements.{All-set}
use Rattle.std.proofs.lemmas.Slice.Eq.{bytes_eq-Decides}
use Rattle.ring_laws.specs.Ring.{RingLaws}
use Rattle.ring_laws.proofs.SumLemmas as S
use Rattle.ring_laws.proofs.StatedLemmas.{some_inj}
use Rattle.symbol_table.specs.AllLabels.{IsProper}
use Rattle.symbol_table.specs.Symbols.{Symbols}
use Rattle.program_text.specs.declared.plan.Sign.{Sign}
use Rattle.tree_shapes.specs.Contexts.{fill, place}
use Rattle.tree_shapes.specs.Labelled.{is_admissible}
use Rattle.tree_shapes.specs.Outlines.{size, with_labels}
use Rattle.tree_laws.specs.Entries.{labels_of}
use Rattle.tree_laws.specs.Laws.{pair}
use Rattle.amp_store.specs.Amplitudes.{AreAmplitudes, amplitude_at}
use Rattle.amp_store.proofs.EditLemmas.{nonzero_in}
use Rattle.comb_laws.specs.Operators.{swapped}
use Rattle.comb_laws.specs.declared.operator.Operator.TheVariants.{Exchange}
use Rattle.path_laws.proofs.Across.{swapped_first, swapped_second}
use Rattle.path_laws.proofs.ActLemmas.{After, after_is, length-swapped, swapped_is}
use Rattle.recouple.specs.Raises.{AreOver}
use Rattle.recouple.specs.States.{State, IsStateOf}
use Rattle.recouple.proofs.AdmissibleLemmas.{adm_in, adm_is, and_true}
use Rattle.recouple.proofs.EntryLemmas.{entry_is}
use Rattle.recouple.proofs.PairLemmas.{IsPair, pair_fuses}
use Rattle.braid_act.specs.Exchanges.{HasEntry, exchange_at, exchanged}

-- an amplitude of mapped entries
module _ {E : Type 0} (x : List ℕ → E) (o : E → E → E) where
  abbrev pub times : List ℕ × E → List ℕ × E
  times e = (e.0, o (x e.0) e.1)

  pub amplitude_times : (es : List (List ℕ × E)) (key : List ℕ) → amplitude_at (map times es) key ≡ option_map (o (x key)) (amplitude_at es key)
  amplitude_times [] key = refl
  amplitude_times (e ∷ es) key = by (bytes_eq key e.0) refl (amplitude_times es key)
    where
      by : (b : Bool) → bytes_eq key e.0 ≡ b → amplitude_at (map times es) key ≡ option_map (o (x key)) (amplitude_at es key)
          → (if b then Some (o (x e.0) e.1) else amplitude_at (map times es) key) ≡ option_map (o (x key)) (if b then Some e.1 else amplitude_at es key)
      by true is rest = ap (λ k. Some (o (x k) e.1)) (sym ((bytes_eq-Decides key e.0).0 is))
      by false is rest = rest

  pub from_times : (es : List (List ℕ × E)) (key : List ℕ) (v : E) → amplitude_at (map times es) key ≡ Some v → (w : E) × (amplitude_at es key ≡ Some w) × (v ≡ o (x key) w)
  from_times es key v h = by (amplitude_at es key) refl (sym (amplitude_times es key) ∙ h)
    where
      by : (a : Option E) → amplitude_at es key ≡ a → option_map (o (x key)) a ≡ Some v → (w : E) × (amplitude_at es key ≡ Some w) × (v ≡ o (x key) w)
      by None there e = absurd (cc)
      by (Some w) there e = (w, there, sym (some_inj _ _ e))

module _ {E : Type 0} (c : Symbols E) (laws : RingLaws c.ring c.held) (proper : IsProper c) (sign : Sign) (s : State E) (is : IsStateOf c s) (k : ℕ) (low : 0 < k) (high : k < size s.shape) (at : IsPair s.shape k) where
  abbrev after : State E
  after = exchanged c sign k s

  abbrev symbol : List ℕ → E
  symbol = exchange_at c sign s.strands k

  short : k < length s.strands
  short = omega (arith, is.leaves)

  -- the strands fuse in both orders
  still : (key : List ℕ) → is_admissible c.fuse (with_labels s.shape s.strands key) ≡ true → is_admissible c.fuse (with_labels s.shape (swapped s.strands k) key) ≡ true
  still key h =
      let a = at.around in
      let i = place at.around 0 in
      let old = slice_index s.strands in
      let new = slice_index (swapped s.strands k) in
      let x = labels_of key in
      let place_is = swapped_is s.strands (place at.around 0) k at.gap short in
      let first : slice_index (swapped s.strands k) (place at.around 0) ≡ slice_index s.strands (place at.around 0 + 1) =
      ap (λ (f : ℕ → ℕ). f (place at.around 0)) place_is ∙ swapped_first (place at.around 0) (slice_index s.strands) in
      let second : slice_index (swapped s.strands k) (place at.around 0 + 1) ≡ slice_index s.strands (place at.around 0) =
      ap (λ (f : ℕ → ℕ). f (place at.around 0 + 1)) place_is ∙ swapped_second (place at.around 0) (slice_index s.strands) in
      let others = After.others (after_is (Exchange sign) s.strands (place at.around 0) k at.gap short) in
      ap (λ t. is_admissible c.fuse (with_labels t (swapped s.strands k) key)) at.is
      ∙ (adm_is c new (fill a pair) x 0
      ∙ adm_in c old new pair pair x x refl a 0
      (record {
        strands_below = λ g below. sym (others g (λ e. omega (arith, e)) (λ e. omega (arith, e)));
        strands_above = λ g above. sym (others g (λ e. omega (arith, e)) (λ e. omega (arith, e)));
        below = λ g _ _. refl;
        above = λ g _. refl;
      })
      refl
      (λ inner.
      let there = and_true (c.fuse (slice_index s.strands i) (slice_index s.strands (i + 1)) (x (i + 1))) _ inner in
      S.and_yes _ _
      ((λ j. c.fuse (first j) (second j) (x (i + 1))) ∙ (sym (proper.commutes (slice_index s.strands i) (slice_index s.strands (i + 1)) (x (i + 1))) ∙ there.0)) refl)
      (sym (adm_is c old (fill a pair) x 0) ∙ (ap (λ t. is_admissible c.fuse (with_labels t s.strands key)) (sym at.is) ∙ h)))

  from : (key : List ℕ) (v : E) → amplitude_at after.amps key ≡ Some v → (w : E) × (amplitude_at s.amps key ≡ Some w) × (v ≡ c.ring.product (symbol key) w)
  from key v h = from_times symbol c.ring.product s.amps key v h

  new_over : AreOver c.ring c.count (length (swapped s.strands k)) after.amps
  new_over = record {
    members = λ key v h. let w = from key v h in subst (λ (z : E). IsTrue (c.ring.member z)) (sym w.2) (laws.product_is _ _);
    keys = λ key v h. let w = from key v h in let old = is.over.keys key w.0 w.1 in record { long = length-swapped s.strands k ∙ old.long; labels = old.labels };
  }

  label_below : (i : ℕ) → i < length s.strands → slice_index s.strands i < c.count
  label_below i h = is.labels i 0 h

  pub of_after : IsStateOf c (exchanged c sign k s)
  of_after = record {
    leaves = is.leaves ∙ sym (length-swapped s.strands k);
    labels =
        All-set (λ l. l < c.count) (set s.strands (k - 1) (get_or s.strands ((k + 1) - 1) 0)) k (get_or s.strands (k - 1) 0) (label_below (k - 1) (omega (arith, short)))
        (All-set (λ l. l < c.count) s.strands (k - 1) (get_or s.strands ((k + 1) - 1) 0) (label_below ((k + 1) - 1) (omega (arith, short))) is.labels);
    over = new_over;
    admissible = λ key v h. let w = from key v h in still key (is.admissible key w.0 w.1);
  }

  pub some_after : s.amps ≢ [] → State.amps (exchanged c sign k s) ≢ []
  some_after some none = by s.amps refl none
    where
      by : (es : List (List ℕ × E)) → s.amps ≡ es → map (times symbol c.ring.product) es ≡ [] → ⊥
      by [] e h = some e
      by (d ∷ ds) e h = absurd (cc)

-- what an entry of a state's amplitudes has
pub has_entry : {E : Type 0} (c : Symbols E) (s : State E) → IsStateOf c s → AreAmplitudes c.held s.amps → (k : ℕ) → 0 < k → k < size s.shape → IsPair s.shape k
    → (i : ℕ) (e : List ℕ × E) → slice_get s.amps i ≡ Some e → HasEntry c s k e
has_entry c s is order k low high at i e h =
    let there = entry_is c s is order i e h in
    record {
      long = omega (arith, (is.over.keys e.0 e.1 there).long, is.leaves);
      fuses = pair_fuses c s.strands e.0 s.shape k at (is.admissible e.0 e.1 there);
      member = is.over.members e.0 e.1 there;
      some = nonzero_in c.held s.amps e.0 e.1 order.nonzero there;
    }
