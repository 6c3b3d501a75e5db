-- The first event of the weight laws, tried on small rules with values that were chosen by hand.
use Rattle.std.specs.Prelude.{◌≡◌, ℕ, List, [], ◌∷◌, ℤ, pos, negsuc, neg_ℤ, Option, Some, None, refl}
use Rattle.std.proofs.Common.{sym, ◌∙◌}
use Rattle.std.proofs.lemmas.Option.{none-some}
use Rattle.std.proofs.lemmas.List.Elements.{All-append, All-cons, All-nil}
use Rattle.ring_laws.specs.Ring.{Ring}
use Rattle.ring_laws.specs.Whole.{whole_ring, whole_held, most}
use Rattle.ring_laws.specs.WholeLaws.{whole_laws}
use Rattle.fusion_rules.specs.Fusion.{Fusion, with_triple}
use Rattle.fusion_rules.proofs.Worked.{fib, two_labels, three_labels}
use Rattle.symbol_table.specs.Index.{f_index, v_index}
use Rattle.symbol_table.specs.Symbols.{Symbols}
use Rattle.symbol_table.specs.Draft.{DraftValue, given}
use Rattle.symbol_table.specs.Laws.{LawHolds}
use Rattle.symbol_table.specs.Category.{draft_symbols}
use Rattle.symbol_table.specs.declared.law.Law.{Law}
use Rattle.symbol_table.specs.declared.law.Law.TheVariants.{UnitF, UnitR, UnitW, RealW, InverseW, NormR, InverseF, Rigid}
use Rattle.symbol_table.specs.declared.law.Kind.{Kind}
use Rattle.symbol_table.specs.declared.law.Kind.TheVariants.{Fails, Overflow}
use Rattle.symbol_table.specs.declared.law.Event.{Event}
use Rattle.law_events.specs.Sides.{first_in, first_of}
use Rattle.law_events.specs.Verdicts.{AllFit, AllHold, Fits}
use Rattle.law_events.proofs.Firsts.{no_verdict, or_none}
use Rattle.weight_check.specs.Order.{weight_laws}
use Rattle.law_events.proofs.Judged.{judges_right}
use Rattle.law_events.proofs.Lists.{all_hold}

abbrev weight_event : Ring ℤ → DraftValue ℕ ℤ → Option Event
weight_event ring draft = first_in (draft_symbols ring whole_held draft) weight_laws

abbrev event : Kind → Law → List ℕ → Option Event
event kind law index = Some (record { kind = kind; law = law; index = index })

-- two labels, the second times itself is the unit; no symbol is set
abbrev plain : DraftValue ℕ ℤ
plain = record { version = 1; ring = 0; rules = with_triple two_labels 1 1 0; set_f = []; set_r = []; set_w = []; set_v = []; set_twist = []; set_loop = [] }

pub no_event : weight_event whole_ring plain ≡ None
no_event = refl

pub unit_f_event : weight_event whole_ring (record plain { set_f = (f_index 0 1 1 0 1 0, pos 3) ∷ []; set_r = (v_index 0 1 1, pos 3) ∷ [] }) ≡ event Fails UnitF (0 ∷ 1 ∷ 1 ∷ 0 ∷ 1 ∷ 0 ∷ [])
unit_f_event = refl

pub unit_r_event : weight_event whole_ring (record plain { set_r = (v_index 1 0 1, pos 3) ∷ [] }) ≡ event Fails UnitR (1 ∷ 0 ∷ 1 ∷ [])
unit_r_event = refl

pub unit_w_event : weight_event whole_ring (record plain { set_w = (v_index 0 1 1, pos 3) ∷ [] }) ≡ event Fails UnitW (0 ∷ 1 ∷ 1 ∷ [])
unit_w_event = refl

-- where a conjugate is the negative, 1 isn't its own
pub real_w_event : weight_event (record whole_ring { conjugate = neg_ℤ }) plain ≡ event Fails RealW (0 ∷ 0 ∷ 0 ∷ [])
real_w_event = refl

-- w = 2 and v = 1
pub inverse_w_event : weight_event whole_ring (record plain { set_w = (v_index 1 1 0, pos 2) ∷ [] }) ≡ event Fails InverseW (1 ∷ 1 ∷ 0 ∷ [])
inverse_w_event = refl

-- 2 · 2 · 1 isn't 1
pub norm_r_event : weight_event whole_ring (record plain { set_r = (v_index 1 1 0, pos 2) ∷ [] }) ≡ event Fails NormR (1 ∷ 1 ∷ 0 ∷ [])
norm_r_event = refl

-- three labels in a circle: the weight of 1 2 0 isn't that of 2 1 0
abbrev circle : Fusion
circle = with_triple (with_triple (with_triple (with_triple three_labels 1 1 2) 1 2 0) 2 1 0) 2 2 1

pub mirrored_event : weight_event whole_ring (record plain { rules = circle; set_w = (v_index 1 2 0, negsuc 0) ∷ []; set_v = (v_index 1 2 0, negsuc 0) ∷ [] }) ≡ event Fails NormR (1 ∷ 2 ∷ 0 ∷ [])
mirrored_event = refl

-- F H is 4
pub inverse_f_event : weight_event whole_ring (record plain { set_f = (f_index 1 1 1 1 0 0, pos 2) ∷ [] }) ≡ event Fails InverseF (1 ∷ 1 ∷ 1 ∷ 1 ∷ 0 ∷ 0 ∷ [])
inverse_f_event = refl

-- F H is too large
pub large_event : weight_event whole_ring (record plain { set_f = (f_index 1 1 1 1 0 0, pos most) ∷ [] }) ≡ event Overflow InverseF (1 ∷ 1 ∷ 1 ∷ 1 ∷ 0 ∷ 0 ∷ [])
large_event = refl

-- F has the rows 1 0 and 1 0, whose norms are 1
pub off_diagonal_event : weight_event whole_ring (record plain { rules = fib; set_f = (f_index 1 1 1 1 0 1, pos 0) ∷ (f_index 1 1 1 1 1 1, pos 0) ∷ [] }) ≡ event Fails InverseF (1 ∷ 1 ∷ 1 ∷ 1 ∷ 0 ∷ 1 ∷ [])
off_diagonal_event = refl

-- F has the rows 0 1 and 1 0
pub rigid_event : weight_event whole_ring (record plain { rules = fib; set_f = (f_index 1 1 1 1 0 0, pos 0) ∷ (f_index 1 1 1 1 1 1, pos 0) ∷ [] }) ≡ event Fails Rigid (1 ∷ [])
rigid_event = refl

-- What is asked of a draft that no law is named for: the two labels meet it.
abbrev plain_symbols : Symbols ℤ
plain_symbols = draft_symbols whole_ring whole_held plain

fits_where_none : {E : Type 0} (c : Symbols E) (law : Law) → first_of c law ≡ None → Fits c law
fits_where_none c law none i is overflow = none-some Overflow (sym (no_verdict c law none i is) ∙ overflow)

all_fit : {E : Type 0} (c : Symbols E) (laws : List Law) → first_in c laws ≡ None → AllFit c laws
all_fit c [] none = All-nil (λ law. Fits c law)
all_fit c (law ∷ laws) none =
    let both = or_none (first_of c law) (first_in c laws) none in
    All-cons (λ law. Fits c law) law laws (fits_where_none c law both.0) (all_fit c laws both.1)

pub plain_fits : AllFit plain_symbols weight_laws
plain_fits = all_fit plain_symbols weight_laws no_event

pub plain_holds : AllHold plain_symbols weight_laws
plain_holds = all_hold plain_symbols (judges_right whole_ring whole_held whole_laws (given plain)) weight_laws no_event
