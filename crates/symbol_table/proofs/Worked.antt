-- The symbols, tried on values that were worked out by hand.
use Rattle.std.specs.Prelude.{◌≡◌, ℕ, ◌+◌, ◌*◌, Bool, true, false, ◌&&◌, [], ◌∷◌, ℤ, pos, neg_ℤ, Some, None, refl}
use Rattle.std.proofs.Common.{arith}
use Rattle.std.proofs.lemmas.Bool.Decides.{nat_tests}
use Rattle.ring_laws.specs.Ring.{Ring}
use Rattle.ring_laws.specs.Whole.{whole_ring, whole_held, most}
use Rattle.fusion_rules.specs.Fusion.{fuses}
use Rattle.fusion_rules.proofs.Worked.{fib, one_label}
use Rattle.symbol_table.specs.Symbols.{Given, Symbols, f_of, vertex_of, h_of, s_of, symbols_of}
use Rattle.symbol_table.specs.Evaluated.{h_stated, s_stated}
use Rattle.symbol_table.specs.Laws.{Same, Free, unit_f_says, unit_says, norm_r_says, real_w_says, inverse_w_says}
use Rattle.symbol_table.specs.Index.{f_index, v_index}
use Rattle.symbol_table.specs.Draft.{DraftValue, given, with_f, f_fault}
use Rattle.symbol_table.specs.Derived.{DerivedValue, HoldsSymbols}
use Rattle.symbol_table.specs.declared.draft.SetFault.TheVariants.{NotAdmissible, Repeated}

-- whole numbers whose conjugate is the negative, so that a conjugate shows
abbrev pub turned_ring : Ring ℤ
turned_ring = record whole_ring { conjugate = neg_ℤ }

-- all labels fuse, and each symbol is another number: 1abcdef, 2abc, 3abc, 4abc in digits, 5a for a twist and 6a for a
-- loop value
abbrev pub numbered : Given ℤ
numbered = record {
  version = 1;
  count = 7;
  fuse = λ a b c. true;
  set_f = λ a b c d e f. Some (pos (1000000 + 100000 * a + 10000 * b + 1000 * c + 100 * d + 10 * e + f));
  set_r = λ a b c. Some (pos (2000 + 100 * a + 10 * b + c));
  set_w = λ a b c. Some (pos (3000 + 100 * a + 10 * b + c));
  set_v = λ a b c. Some (pos (4000 + 100 * a + 10 * b + c));
  set_twist = λ a. Some (pos (50 + a));
  set_loop = λ a. Some (pos (60 + a));
}

-- conj(F(1,2,3,4;6,5)) w(2,3,5) w(1,5,4) v(1,2,6) v(6,3,4) = -1123465 · 3235 · 3154 · 4126 · 4634
pub h_by_hand : h_of turned_ring numbered 1 2 3 4 5 6 ≡ neg_ℤ (pos 219169831736537011400)
h_by_hand = refl

pub h_evaluated : h_stated (symbols_of turned_ring whole_held numbered) 1 2 3 4 5 6 ≡ Some (neg_ℤ (pos 219169831736537011400))
h_evaluated = refl

-- conj(R(2,1,0)) w(1,2,0) v(2,1,0) = -2210 · 3120 · 4210
pub s_by_hand : s_of turned_ring numbered 1 2 0 ≡ neg_ℤ (pos 29028792000)
s_by_hand = refl

pub s_evaluated : s_stated (symbols_of turned_ring whole_held numbered) 1 2 0 ≡ Some (neg_ℤ (pos 29028792000))
s_evaluated = refl

-- what laws say at distinct numbers
abbrev turned : Symbols ℤ
turned = symbols_of turned_ring whole_held numbered

pub unit_f_first : unit_f_says turned 0 1 2 3 4 5 ≡ Same (pos 1012345) (pos 1)
unit_f_first = refl

pub unit_f_second : unit_f_says turned 1 0 2 3 4 5 ≡ Same (pos 1102345) (pos 1)
unit_f_second = refl

pub unit_f_third : unit_f_says turned 1 2 0 3 4 5 ≡ Same (pos 1120345) (pos 1)
unit_f_third = refl

pub no_unit_f : unit_f_says turned 1 2 3 4 5 6 ≡ Free
no_unit_f = refl

pub unit_r_first : unit_says turned turned.r 0 1 2 ≡ Same (pos 2012) (pos 1)
unit_r_first = refl

pub unit_r_second : unit_says turned turned.r 1 0 2 ≡ Same (pos 2102) (pos 1)
unit_r_second = refl

pub no_unit_r : unit_says turned turned.r 1 2 0 ≡ Free
no_unit_r = refl

-- R(1,2,0) conj(R(1,2,0)) w(2,1,0) = -2120 · 2120 · 3210
pub norm_r_by_hand : norm_r_says turned 1 2 0 ≡ Same (neg_ℤ (pos 14427024000)) (pos 3120)
norm_r_by_hand = refl

pub real_w_by_hand : real_w_says turned 1 2 0 ≡ Same (neg_ℤ (pos 3120)) (pos 3120)
real_w_by_hand = refl

-- 3120 · 4120
pub inverse_w_by_hand : inverse_w_says turned 1 2 0 ≡ Same (pos 12854400) (pos 1)
inverse_w_by_hand = refl

-- Fibonacci rules with two values of F and one of R
abbrev partly : DraftValue ℕ ℤ
partly = record {
  version = 1;
  ring = 0;
  rules = fib;
  set_f = (f_index 1 1 1 1 0 0, pos 7) ∷ (f_index 1 1 1 1 1 0, pos 9) ∷ [];
  set_r = (v_index 1 1 0, pos 5) ∷ [];
  set_w = [];
  set_v = [];
  set_twist = [];
  set_loop = [];
}

pub f_set : f_of whole_ring (given partly) 1 1 1 1 0 0 ≡ pos 7
f_set = refl

pub f_set_other : f_of whole_ring (given partly) 1 1 1 1 1 0 ≡ pos 9
f_set_other = refl

pub f_unset : f_of whole_ring (given partly) 1 1 1 1 0 1 ≡ pos 1
f_unset = refl

pub f_not_admissible : f_of whole_ring (given partly) 0 1 1 1 0 1 ≡ pos 0
f_not_admissible = refl

pub f_no_label : f_of whole_ring (given partly) 2 2 2 2 2 2 ≡ pos 0
f_no_label = refl

pub r_set : vertex_of whole_ring (given partly) (given partly).set_r 1 1 0 ≡ pos 5
r_set = refl

pub r_unset : vertex_of whole_ring (given partly) (given partly).set_r 1 1 1 ≡ pos 1
r_unset = refl

pub not_admissible : f_fault (given partly) (f_index 0 1 1 1 0 1) ≡ Some NotAdmissible
not_admissible = refl

pub set_before : f_fault (given partly) (f_index 1 1 1 1 1 0) ≡ Some Repeated
set_before = refl

pub may_be_set : f_fault (given partly) (f_index 1 1 1 1 0 1) ≡ None
may_be_set = refl

pub f_set_now : f_of whole_ring (given (with_f partly (f_index 1 1 1 1 0 1) (pos 4))) 1 1 1 1 0 1 ≡ pos 4
f_set_now = refl

-- weights at the edge of 128 bits: H stops at its first product, and S too
abbrev edge : Given ℤ
edge = record numbered { set_w = λ a b c. Some (pos most) }

pub h_too_large : h_stated (symbols_of whole_ring whole_held edge) 1 2 3 4 5 6 ≡ None
h_too_large = refl

pub s_too_large : s_stated (symbols_of whole_ring whole_held edge) 1 2 0 ≡ None
s_too_large = refl

-- a conjugate that doesn't fit stops both before any product
pub no_conjugate : s_stated (symbols_of (record whole_ring { conjugate_fits = λ x. false }) whole_held numbered) 1 2 0 ≡ None
no_conjugate = refl

-- the unit alone: H and S are 1, and a derived value that holds them
abbrev pub unit_draft : DraftValue ℕ ℤ
unit_draft = record { version = 1; ring = 0; rules = one_label; set_f = []; set_r = []; set_w = []; set_v = []; set_twist = []; set_loop = [] }

abbrev pub unit_derived : DerivedValue ℤ
unit_derived = record { put_h = (f_index 0 0 0 0 0 0, pos 1) ∷ []; put_s = (v_index 0 0 0, pos 1) ∷ [] }

pub one_only : (a b c : ℕ) → fuses one_label a b c ≡ true → (a ≡ 0) × (b ≡ 0) × (c ≡ 0)
one_only a b c h = grind (arith, nat_tests)

four_parts : (x y z u : Bool) → (x && (y && (z && u))) ≡ true → (x ≡ true) × (y ≡ true) × (u ≡ true)
four_parts true true true true e = (refl, refl, refl)
four_parts true true true false e = absurd cc
four_parts true true false u e = absurd cc
four_parts true false z u e = absurd cc
four_parts false y z u e = absurd cc

pub unit_holds : HoldsSymbols whole_ring (given unit_draft) unit_derived
unit_holds = record {
  h = λ a b c d f e is.
      let parts = four_parts (fuses one_label a b e) (fuses one_label e c d) (fuses one_label b c f) (fuses one_label a f d) is in
      let left = one_only a b e parts.0 in
      let right = one_only e c d parts.1 in
      let last = one_only a f d parts.2 in
      rw (left.0, left.1, left.2, right.1, right.2, last.1) refl;
  s = λ a b c is. let all = one_only a b c is in rw (all.0, all.1, all.2) refl;
}
