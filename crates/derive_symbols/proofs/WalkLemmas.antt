-- A walk over the labels: where it can't go on, one label more, a stop, and all labels.
use Rattle.std.proofs.Common.{◌≡◌, ◌≢◌, ℕ, zero, suc, ◌+◌, ◌-◌, ◌<◌, ◌≤◌, Bool, true, false, ◌&&◌, List, [], ◌∷◌, ◌++◌, Some, None, Ok, refl, sym, ap, subst, ◌∙◌, arith, inl, inr, append_assoc, append-nil}
use Rattle.std.specs.Prelude.{slice_index, ◌⊎◌}
use Rattle.std.proofs.lemmas.Bool.{cases_lt}
use Rattle.ring_laws.specs.Ring.{Ring, Held}
use Rattle.fusion_rules.specs.First.{first_from, first_below}
use Rattle.fusion_rules.proofs.FaultLemmas.{next, below_none}
use Rattle.symbol_table.specs.Symbols.{Given}
use Rattle.symbol_table.specs.Derived.{DerivedValue}
use Rattle.symbol_table.specs.declared.law.Event.{Event}
use Rattle.law_events.specs.First.{first_over}
use Rattle.derive_symbols.specs.Told.{IsFault}
use Rattle.derive_symbols.specs.Walk.{goes_on, stop_at, HoldsAt, HoldsOver, Keeps, Fills}
use Rattle.derive_symbols.specs.declared.WeightFault.{WeightFault}
use Rattle.derive_symbols.specs.declared.WeightFault.TheVariants as fault
use Rattle.derive_symbols.specs.declared.walk.Symbol.{Symbol}
use Rattle.derive_symbols.specs.declared.walk.Symbol.TheVariants as kind

one_more_label : (m : ℕ) → m ≢ 0 → m ≡ suc (m - 1)
one_more_label m h = omega arith

not_admissible : (x y z u : Bool) → (z && u) ≡ false → (x && (y && (z && u))) ≡ false
not_admissible true true z u e = e
not_admissible true false z u e = refl
not_admissible false y z u e = refl

and_more : (x y z u : Bool) → (x && (y && (z && u))) ≡ false → (x && (y && (z && (u && true)))) ≡ false
and_more true true true true e = e
and_more true true true false e = refl
and_more true true false u e = refl
and_more true false z u e = refl
and_more false y z u e = refl

module _ {E : Type 0} (ring : Ring E) (held : Held E) (g : Given E) where
  -- labels that no e completes are part of no admissible index
  stuck : (symbol : Symbol) (index : List ℕ) → goes_on g.fuse symbol index ≡ false → (rest : List ℕ)
      → (stop_at ring held g symbol (index ++ rest) ≡ None) × ((d : DerivedValue E) → HoldsAt ring g d symbol (index ++ rest))
  stuck kind.S index e rest = absurd cc
  stuck kind.H [] e rest = absurd cc
  stuck kind.H (a ∷ []) e rest = absurd cc
  stuck kind.H (a ∷ b ∷ []) e rest = absurd cc
  stuck kind.H (a ∷ b ∷ c ∷ []) e rest = absurd cc
  stuck kind.H (a ∷ b ∷ c ∷ d ∷ []) e rest = absurd cc
  stuck kind.H (a ∷ b ∷ c ∷ d ∷ f ∷ []) e rest =
      let last = slice_index rest 0 in
      let not = not_admissible (g.fuse a b last) (g.fuse last c d) (g.fuse b c f) (g.fuse a f d) e in
      (rw (and_more (g.fuse a b last) (g.fuse last c d) (g.fuse b c f) (g.fuse a f d) not) refl, λ derived is. absurd (both not is))
    where
      both : {b : Bool} → b ≡ false → b ≡ true → ⊥
      both {b} x y = cc
  stuck kind.H (a ∷ b ∷ c ∷ d ∷ f ∷ e' ∷ more) e rest = absurd cc

  none_over : (symbol : Symbol) (more : ℕ) (index : List ℕ) → ((rest : List ℕ) → stop_at ring held g symbol (index ++ rest) ≡ None) → first_over g.count (stop_at ring held g symbol) more index ≡ None
  none_over symbol zero index none = ap (stop_at ring held g symbol) (sym (append-nil index)) ∙ none []
  none_over symbol (suc more) index none =
      below_none (λ (t : ℕ). first_over g.count (stop_at ring held g symbol) more (index ++ t ∷ [])) g.count
      (λ t h. none_over symbol more (index ++ t ∷ []) (λ rest. ap (stop_at ring held g symbol) (append_assoc index (t ∷ []) rest) ∙ none (t ∷ rest)))

  all_over : (d : DerivedValue E) (symbol : Symbol) (more : ℕ) (index : List ℕ) → ((rest : List ℕ) → HoldsAt ring g d symbol (index ++ rest)) → HoldsOver ring g d symbol more index
  all_over d symbol zero index all = subst (HoldsAt ring g d symbol) (append-nil index) (all [])
  all_over d symbol (suc more) index all = λ t h.
      all_over d symbol more (index ++ t ∷ []) (λ rest. subst (HoldsAt ring g d symbol) (sym (append_assoc index (t ∷ []) rest)) (all (t ∷ rest)))

  -- where labels can't go on, nothing is to be done
  pub stuck_fills : {A : Type 0} (x : A) (symbol : Symbol) (more : ℕ) (index : List ℕ) (d : DerivedValue E) → goes_on g.fuse symbol index ≡ false → Fills ring held g (Ok x) symbol more index d d
  stuck_fills x symbol more index d e =
      (none_over symbol more index (λ rest. (stuck symbol index e rest).0), (λ s i stands. stands), all_over d symbol more index (λ rest. (stuck symbol index e rest).1 d))

  kept_over : (old new : DerivedValue E) → Keeps ring g old new → (symbol : Symbol) (more : ℕ) (index : List ℕ) → HoldsOver ring g old symbol more index → HoldsOver ring g new symbol more index
  kept_over old new kept symbol zero index stands = kept symbol index stands
  kept_over old new kept symbol (suc more) index stands = λ t h. kept_over old new kept symbol more (index ++ t ∷ []) (stands t h)

  -- A walk has passed the labels below t: no stop so far, what stood is kept, and the values stand there.
  pub record Passed (symbol : Symbol) (more : ℕ) (index : List ℕ) (old : DerivedValue E) (t : ℕ) (now : DerivedValue E) : Type 0 where
    pub none : first_from (λ s. first_over g.count (stop_at ring held g symbol) more (index ++ s ∷ [])) t (g.count - t) ≡ first_below g.count (λ s. first_over g.count (stop_at ring held g symbol) more (index ++ s ∷ []))
    pub kept : Keeps ring g old now
    pub stand : (s : ℕ) → s < t → HoldsOver ring g now symbol more (index ++ s ∷ [])

  module _ (symbol : Symbol) (more : ℕ) (index : List ℕ) (old : DerivedValue E) where
    pub begun : Passed symbol more index old 0 old
    begun = record { none = all_left; kept = λ s i stands. stands; stand = λ s h. absurd (omega arith) }
      where
        all_left : first_from (λ s. first_over g.count (stop_at ring held g symbol) more (index ++ s ∷ [])) 0 (g.count - 0) ≡ first_below g.count (λ s. first_over g.count (stop_at ring held g symbol) more (index ++ s ∷ []))
        all_left = let whole : g.count - 0 ≡ g.count = omega arith in rw whole refl

    pub one_more : {A : Type 0} (x : A) (t : ℕ) (now new : DerivedValue E) → t < g.count → Passed symbol more index old t now
        → Fills ring held g (Ok x) symbol more (index ++ t ∷ []) now new → Passed symbol more index old (t + 1) new
    one_more x t now new h passed filled = record {
      none = left ∙ passed.none;
      kept = λ s i stands. filled.1 s i (passed.kept s i stands);
      stand = λ s below. at s below (cases_lt s t);
    }
      where
        left : first_from (λ s. first_over g.count (stop_at ring held g symbol) more (index ++ s ∷ [])) (t + 1) (g.count - (t + 1)) ≡ first_from (λ s. first_over g.count (stop_at ring held g symbol) more (index ++ s ∷ [])) t (g.count - t)
        left = sym (next (λ s. first_over g.count (stop_at ring held g symbol) more (index ++ s ∷ [])) t g.count h ∙ rw filled.0 refl)

        at : (s : ℕ) → s < t + 1 → (s < t) ⊎ (t ≤ s) → HoldsOver ring g new symbol more (index ++ s ∷ [])
        at s below (inl lt) = kept_over now new filled.1 symbol more (index ++ s ∷ []) (passed.stand s lt)
        at s below (inr ge) = let same : t ≡ s = omega arith in subst (λ (u : ℕ). HoldsOver ring g new symbol more (index ++ u ∷ [])) same filled.2

    stop_over : (t : ℕ) (now : DerivedValue E) (stop : Event) → t < g.count → Passed symbol more index old t now
        → first_over g.count (stop_at ring held g symbol) more (index ++ t ∷ []) ≡ Some stop → first_over g.count (stop_at ring held g symbol) (suc more) index ≡ Some stop
    stop_over t now stop h passed is = sym passed.none ∙ (next (λ s. first_over g.count (stop_at ring held g symbol) more (index ++ s ∷ [])) t g.count h ∙ rw is refl)

    stops_more : (t : ℕ) (now : DerivedValue E) (stop : WeightFault) → t < g.count → Passed symbol more index old t now
        → IsFault stop (first_over g.count (stop_at ring held g symbol) more (index ++ t ∷ [])) → IsFault stop (first_over g.count (stop_at ring held g symbol) (suc more) index)
    stops_more t now (fault.Law event) h passed is = stop_over t now event h passed is
    stops_more t now fault.Memory h passed is = tt

    all_passed : {A : Type 0} (x : A) (t : ℕ) (now : DerivedValue E) → t ≡ g.count → Passed symbol more index old t now → Fills ring held g (Ok x) symbol (suc more) index old now
    all_passed x t now e passed = (sym passed.none ∙ ended, passed.kept, λ s h. passed.stand s (omega arith))
      where
        ended : first_from (λ s. first_over g.count (stop_at ring held g symbol) more (index ++ s ∷ [])) t (g.count - t) ≡ None
        ended = let nothing : g.count - t ≡ 0 = omega arith in rw nothing refl

  -- the same, with the number of labels before one is taken
  pub walk_stops : (symbol : Symbol) (m : ℕ) (index : List ℕ) (old : DerivedValue E) (t : ℕ) (now : DerivedValue E) (stop : WeightFault) → m ≢ 0 → t < g.count
      → Passed symbol (m - 1) index old t now → IsFault stop (first_over g.count (stop_at ring held g symbol) (m - 1) (index ++ t ∷ [])) → IsFault stop (first_over g.count (stop_at ring held g symbol) m index)
  walk_stops symbol m index old t now stop some h passed is =
      subst (λ (k : ℕ). IsFault stop (first_over g.count (stop_at ring held g symbol) k index)) (sym (one_more_label m some)) (stops_more symbol (m - 1) index old t now stop h passed is)

  pub walk_ends : {A : Type 0} (x : A) (symbol : Symbol) (m : ℕ) (index : List ℕ) (old : DerivedValue E) (t : ℕ) (now : DerivedValue E) → m ≢ 0 → t ≡ g.count
      → Passed symbol (m - 1) index old t now → Fills ring held g (Ok x) symbol m index old now
  walk_ends {A} x symbol m index old t now some e passed =
      subst (λ (k : ℕ). Fills ring held g {A = A} (Ok x) symbol k index old now) (sym (one_more_label m some)) (all_passed symbol (m - 1) index old x t now e passed)
