-- A walk over the labels: where it can't go on, one label more, a stop, and all labels.
use Rattle.std.proofs.Common.{◌≡◌, ◌≢◌, ℕ, zero, suc, ◌+◌, ◌-◌, ◌<◌, ◌≤◌, Bool, true, false, List, [], ◌∷◌, ◌++◌, length, get_or, take, drop, Option, Some, None, Ok, refl, sym, ap, subst, ◌∙◌, arith, inl, inr, append_assoc, append-nil}
use Rattle.std.specs.Prelude.{◌⊎◌}
use Rattle.std.proofs.lemmas.Bool.{cases_lt}
use Rattle.std.proofs.lemmas.List.{at_drop_more, take_more}
use Rattle.cyclo_core.specs.Ratio.{Ratio}
use Rattle.fusion_rules.specs.First.{first_from, first_below}
use Rattle.fusion_rules.proofs.FaultLemmas.{next}
use Rattle.symbol_table.specs.Symbols.{Symbols}
use Rattle.symbol_table.specs.Laws.{fuse_all}
use Rattle.symbol_table.specs.declared.law.Triple.{Triple}
use Rattle.law_events.specs.First.{all_within, first_over, fuse_known}
use Rattle.law_events.proofs.Left.{none_over, not_admissible, whole}
use Rattle.category_images.specs.Places.{first_in, missing_at, places, triples}
use Rattle.category_images.specs.Making.{AllStand, IsFilled, Fills, IsOf, IsStop, Keeps, StandOver, StandsAt}
use Rattle.category_images.specs.declared.place.Place.{Place}
use Rattle.category_images.specs.declared.place.Symbol.{Symbol}
use Rattle.category_images.specs.declared.place.Symbol.TheVariants.{F, R, W, V, H, S, Twist, Loop}
use Rattle.category_images.specs.declared.making.Making.{Making}
use Rattle.category_images.specs.declared.making.Stop.{Stop}
use Rattle.category_images.specs.declared.making.Stop.TheVariants as stop

one_more_label : (m : ℕ) → m ≢ 0 → m ≡ suc (m - 1)
one_more_label m h = omega arith

pub fuse_known_same : (f g : ℕ → ℕ → ℕ → Bool) → ((a b e : ℕ) → f a b e ≡ g a b e) → (i : List ℕ) (ts : List Triple) → fuse_known f i ts ≡ fuse_known g i ts
fuse_known_same f g same i ts = ap (λ (h : ℕ → ℕ → ℕ → Bool). fuse_known h i ts) (λ t a b e. same a b e t)

pub all_known : (symbol : Symbol) → all_within (places symbol) (triples symbol) ≡ true
all_known F = refl
all_known R = refl
all_known W = refl
all_known V = refl
all_known H = refl
all_known S = refl
all_known Twist = refl
all_known Loop = refl

-- a whole index that goes on is admissible
pub whole_index : (fuse : ℕ → ℕ → ℕ → Bool) (symbol : Symbol) (index : List ℕ) → length index ≡ places symbol → fuse_known fuse index (triples symbol) ≡ true → fuse_all fuse index (triples symbol) ≡ true
whole_index fuse symbol index long known = whole fuse index (triples symbol) (subst (λ n. all_within n (triples symbol) ≡ true) (sym long) (all_known symbol)) known

not_both : {b : Bool} → b ≡ false → b ≡ true → ⊥
not_both {b} x y = cc

module _ (root : ℕ) (w : Symbols Ratio) (stated : Symbol → List ℕ → Option Ratio) where
  abbrev at : Symbol → List ℕ → Option Place
  at = missing_at w.count w.fuse stated

  all_over : (d : Making) (symbol : Symbol) (more : ℕ) (index : List ℕ) → ((rest : List ℕ) → StandsAt root w d symbol (index ++ rest)) → StandOver root w d symbol more index
  all_over d symbol zero index all = subst (StandsAt root w d symbol) (append-nil index) (all [])
  all_over d symbol (suc more) index all = λ t h.
      all_over d symbol more (index ++ t ∷ []) (λ rest. subst (StandsAt root w d symbol) (sym (append_assoc index (t ∷ []) rest)) (all (t ∷ rest)))

  -- where labels don't go on, nothing is to be done
  pub stuck_fills : {A : Type 0} (x : A) (symbol : Symbol) (more : ℕ) (index : List ℕ) (d : Making) → IsOf root w d → fuse_known w.fuse index (triples symbol) ≡ false
      → Fills root w stated {A = A} (Ok x) symbol more index d d
  stuck_fills x symbol more index d of off = record {
    none = none_over w.count (at symbol) more index (λ rest. rw (not_admissible w.fuse index rest (triples symbol) off) refl);
    of = of;
    keeps = λ s i stands. stands;
    over = all_over d symbol more index (λ rest is. absurd (not_both (not_admissible w.fuse index rest (triples symbol) off) is));
  }

  kept_over : (old new : Making) → Keeps old new → (symbol : Symbol) (more : ℕ) (index : List ℕ) → StandOver root w old symbol more index → StandOver root w new symbol more index
  kept_over old new kept symbol zero index stands = λ is. kept symbol index (stands is)
  kept_over old new kept symbol (suc more) index stands = λ t h. kept_over old new kept symbol more (index ++ t ∷ []) (stands t h)

  -- A walk has passed the labels below t: no stop so far, where values stood they stand, and they stand there.
  pub record Passed (symbol : Symbol) (more : ℕ) (index : List ℕ) (old : Making) (t : ℕ) (now : Making) : Type 0 where
    pub none : first_from (λ s. first_over w.count (at symbol) more (index ++ s ∷ [])) t (w.count - t) ≡ first_below w.count (λ s. first_over w.count (at symbol) more (index ++ s ∷ []))
    pub of : IsOf root w now
    pub keeps : Keeps old now
    pub stand : (s : ℕ) → s < t → StandOver root w now symbol more (index ++ s ∷ [])

  module _ (symbol : Symbol) (more : ℕ) (index : List ℕ) (old : Making) where
    abbrev over : ℕ → Option Place
    over s = first_over w.count (at symbol) more (index ++ s ∷ [])

    pub one_more : (t : ℕ) (now new : Making) → t < w.count → Passed symbol more index old t now
        → IsFilled root w stated symbol more (index ++ t ∷ []) now new → Passed symbol more index old (t + 1) new
    one_more t now new h passed filled = record {
      none = left ∙ passed.none;
      of = filled.of;
      keeps = λ s i stands. filled.keeps s i (passed.keeps s i stands);
      stand = λ s below. at_label s below (cases_lt s t);
    }
      where
        left : first_from over (t + 1) (w.count - (t + 1)) ≡ first_from over t (w.count - t)
        left = sym (next over t w.count h ∙ rw filled.none refl)

        at_label : (s : ℕ) → s < t + 1 → (s < t) ⊎ (t ≤ s) → StandOver root w new symbol more (index ++ s ∷ [])
        at_label s below (inl lt) = kept_over now new filled.keeps symbol more (index ++ s ∷ []) (passed.stand s lt)
        at_label s below (inr ge) = let same : t ≡ s = omega arith in subst (λ (u : ℕ). StandOver root w new symbol more (index ++ u ∷ [])) same filled.over

    stop_over : (t : ℕ) (now : Making) (place : Place) → t < w.count → Passed symbol more index old t now
        → over t ≡ Some place → first_over w.count (at symbol) (suc more) index ≡ Some place
    stop_over t now place h passed is = sym passed.none ∙ (next over t w.count h ∙ rw is refl)

    stops_more : (t : ℕ) (now : Making) (cause : Stop) → t < w.count → Passed symbol more index old t now
        → IsStop root w stated cause (over t) → IsStop root w stated cause (first_over w.count (at symbol) (suc more) index)
    stops_more t now (stop.Overflow place) h passed is = stop_over t now place h passed is
    stops_more t now stop.Memory h passed is = tt

    all_passed : (t : ℕ) (now : Making) → t ≡ w.count → Passed symbol more index old t now → IsFilled root w stated symbol (suc more) index old now
    all_passed t now e passed = record {
      none = sym passed.none ∙ ended;
      of = passed.of;
      keeps = passed.keeps;
      over = λ s h. passed.stand s (omega arith);
    }
      where
        ended : first_from over t (w.count - t) ≡ None
        ended = let nothing : w.count - t ≡ 0 = omega arith in rw nothing refl

  -- the same, with the number of labels before one is taken
  pub walk_stops : (symbol : Symbol) (m : ℕ) (index : List ℕ) (old : Making) (t : ℕ) (now : Making) (cause : Stop) → m ≢ 0 → t < w.count
      → Passed symbol (m - 1) index old t now → IsStop root w stated cause (first_over w.count (at symbol) (m - 1) (index ++ t ∷ [])) → IsStop root w stated cause (first_over w.count (at symbol) m index)
  walk_stops symbol m index old t now cause some h passed is =
      subst (λ (k : ℕ). IsStop root w stated cause (first_over w.count (at symbol) k index)) (sym (one_more_label m some)) (stops_more symbol (m - 1) index old t now cause h passed is)

  pub walk_ends : (symbol : Symbol) (m : ℕ) (index : List ℕ) (old : Making) (t : ℕ) (now : Making) → m ≢ 0 → t ≡ w.count
      → Passed symbol (m - 1) index old t now → IsFilled root w stated symbol m index old now
  walk_ends symbol m index old t now some e passed =
      subst (λ (k : ℕ). IsFilled root w stated symbol k index old now) (sym (one_more_label m some)) (all_passed symbol (m - 1) index old t now e passed)

  abbrev first : List Symbol → Option Place
  first = first_in w.count w.fuse stated

  -- the symbols before place i are done
  pub record Filling (symbols : List Symbol) (i : ℕ) (now : Making) : Type 0 where
    pub none : first (drop i symbols) ≡ first symbols
    pub of : IsOf root w now
    pub stand : AllStand root w now (take i symbols)

  kept_all : (old new : Making) → Keeps old new → (symbols : List Symbol) → AllStand root w old symbols → AllStand root w new symbols
  kept_all old new kept [] stand = tt
  kept_all old new kept (symbol ∷ symbols) stand = (kept_over old new kept symbol (places symbol) [] stand.0, kept_all old new kept symbols stand.1)

  stand_push : (now : Making) (symbols : List Symbol) (symbol : Symbol) → AllStand root w now symbols → StandOver root w now symbol (places symbol) [] → AllStand root w now (symbols ++ symbol ∷ [])
  stand_push now [] symbol stand here = (here, tt)
  stand_push now (s ∷ symbols) symbol stand here = (stand.0, stand_push now symbols symbol stand.1 here)

  module _ (symbols : List Symbol) where
    pub symbol_filled : (i : ℕ) (d : Symbol) (now new : Making) → i < length symbols → Filling symbols i now
        → IsFilled root w stated (get_or symbols i d) (places (get_or symbols i d)) [] now new → Filling symbols (i + 1) new
    symbol_filled i d now new h filling filled = record {
      none = sym (at_drop_more first symbols i d h ∙ rw filled.none refl) ∙ filling.none;
      of = filled.of;
      stand = rw (take_more symbols i d h) (stand_push new (take i symbols) (get_or symbols i d) (kept_all now new filled.keeps (take i symbols) filling.stand) filled.over);
    }
