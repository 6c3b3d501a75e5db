-- The first event of deriving, tried on Fibonacci rules with values that were chosen by hand.
use Rattle.std.specs.Prelude.{◌≡◌, ℕ, not, ◌==◌, ◌^◌, List, [], ◌∷◌, ℤ, pos, unsigned_abs, Option, Some, None, refl}
use Rattle.ring_laws.specs.Ring.{Ring}
use Rattle.ring_laws.specs.Whole.{whole_ring, whole_held}
use Rattle.fusion_rules.proofs.Worked.{fib}
use Rattle.symbol_table.specs.Index.{f_index, v_index}
use Rattle.symbol_table.specs.Draft.{DraftValue}
use Rattle.symbol_table.specs.Category.{draft_symbols}
use Rattle.symbol_table.specs.declared.law.Law.{Law}
use Rattle.symbol_table.specs.declared.law.Law.TheVariants.{DeriveH, DeriveS}
use Rattle.symbol_table.specs.declared.law.Kind.TheVariants.{Overflow}
use Rattle.symbol_table.specs.declared.law.Event.{Event}
use Rattle.law_events.specs.Sides.{first_in}

abbrev derive_event : Ring ℤ → DraftValue ℕ ℤ → Option Event
derive_event ring draft = first_in (draft_symbols ring whole_held draft) (DeriveH ∷ DeriveS ∷ [])

-- the event at an index, whose evaluation is too large
abbrev too_large : Law → List ℕ → Option Event
too_large law index = Some (record { kind = Overflow; law = law; index = index })

-- no symbol is set
abbrev plain : DraftValue ℕ ℤ
plain = record { version = 1; ring = 0; rules = fib; set_f = []; set_r = []; set_w = []; set_v = []; set_twist = []; set_loop = [] }

pub no_event : derive_event whole_ring plain ≡ None
no_event = refl

-- w(t,t,1) times v(t,t,1) is too large: the first index with both is 1 t t 1 with f = 1 and e = t
abbrev heavy : DraftValue ℕ ℤ
heavy = record plain { set_w = (v_index 1 1 0, pos (2 ^ 70)) ∷ []; set_v = (v_index 1 1 0, pos (2 ^ 70)) ∷ [] }

pub heavy_event : derive_event whole_ring heavy ≡ too_large DeriveH (0 ∷ 1 ∷ 1 ∷ 0 ∷ 0 ∷ 1 ∷ [])
heavy_event = refl

-- a ring in which 9 alone has no conjugate
abbrev nine_stops : Ring ℤ
nine_stops = record whole_ring { conjugate_fits = λ x. not (unsigned_abs x == 9) }

-- f is slower than e
abbrev twice : DraftValue ℕ ℤ
twice = record plain { set_f = (f_index 1 1 1 1 0 1, pos 9) ∷ (f_index 1 1 1 1 1 0, pos 9) ∷ [] }

pub twice_event : derive_event nine_stops twice ≡ too_large DeriveH (1 ∷ 1 ∷ 1 ∷ 1 ∷ 0 ∷ 1 ∷ [])
twice_event = refl

-- every H comes before S
abbrev late : DraftValue ℕ ℤ
late = record plain { set_f = (f_index 1 1 1 1 1 1, pos 9) ∷ []; set_r = (v_index 1 1 0, pos 9) ∷ [] }

pub late_event : derive_event nine_stops late ≡ too_large DeriveH (1 ∷ 1 ∷ 1 ∷ 1 ∷ 1 ∷ 1 ∷ [])
late_event = refl

abbrev only_r : DraftValue ℕ ℤ
only_r = record plain { set_r = (v_index 1 1 0, pos 9) ∷ (v_index 1 1 1, pos 9) ∷ [] }

pub only_r_event : derive_event nine_stops only_r ≡ too_large DeriveS (1 ∷ 1 ∷ 0 ∷ [])
only_r_event = refl
