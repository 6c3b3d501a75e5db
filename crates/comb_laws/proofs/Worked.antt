-- Worked values, by computing the definitions.
use Rattle.std.specs.Prelude.{◌≡◌, [], ◌∷◌, pos, negsuc, Some, None, refl, slice_index}
use Rattle.comb_laws.specs.Paths.{paths}
use Rattle.comb_laws.specs.Operators.{path_weight}
use Rattle.comb_laws.specs.Amplitudes.{path_amplitude, start_vector, stands_for, own_vector, own_path}
use Rattle.symbol_table.specs.Symbols.{Symbols, symbols_of, s_of, h_of}
use Rattle.tree_shapes.specs.Labelled.{Strand, Joined, leaves}
use Rattle.comb_laws.specs.Words.{operator_on}
use Rattle.comb_laws.specs.declared.operator.Operator.TheVariants.{Exchange}
use Rattle.comb_laws.specs.Plans.{rows_from, outcomes_of}
use Rattle.comb_laws.specs.Inner.{inner_path_weight, inner_outcomes_of}
use Rattle.program_text.specs.declared.letter.Letter.TheVariants.{Tested}
use Rattle.program_text.specs.declared.plan.Command.TheVariants.{Braid, Measure}
use Rattle.program_text.specs.declared.plan.Sign.TheVariants.{Plus, Minus}
use Rattle.symbol_table.proofs.Fib.{Whole5, num, fib, numbered, whole, ring5, held5, v_listed, inverse_golden}
use Rattle.comb_laws.proofs.Fib.{lx, short, x, mixed, spread}

pub three_strands : paths fib (1 ∷ 1 ∷ 1 ∷ []) ≡ (0 ∷ 1 ∷ 0 ∷ 1 ∷ []) ∷ (0 ∷ 1 ∷ 1 ∷ 0 ∷ []) ∷ (0 ∷ 1 ∷ 1 ∷ 1 ∷ []) ∷ []
three_strands = refl

-- four t strands in the left-combed start with the labels 1, t, 1: the pairs' charges in the middle
pub middle_pair : outcomes_of fib lx (Measure 2 ∷ [])
    ≡ record {
      total = num (pos 2) (pos 0) (pos 1) (pos 1);
      rows = (0 ∷ [], num (pos 5) (pos 0) (pos 3) (pos 3)) ∷ (1 ∷ [], num (negsuc 2) (pos 0) (negsuc 1) (negsuc 1)) ∷ [];
    }
middle_pair = refl

pub braided_pair : outcomes_of fib lx (Braid 2 Plus ∷ Measure 1 ∷ [])
    ≡ record {
      total = num (pos 2) (pos 0) (pos 1) (pos 1);
      rows = (0 ∷ [], num (pos 5) (pos 0) (pos 3) (pos 3)) ∷ (1 ∷ [], num (negsuc 2) (pos 0) (negsuc 1) (negsuc 1)) ∷ [];
    }
braided_pair = refl

-- two measurements, whose outcomes stand in the word in the order of the text
pub two_outcomes : outcomes_of fib short (Measure 2 ∷ Measure 1 ∷ [])
    ≡ record {
      total = num (negsuc 0) (pos 0) (negsuc 0) (negsuc 0);
      rows =
          (0 ∷ 0 ∷ [], num (negsuc 7) (pos 0) (negsuc 4) (negsuc 4))
          ∷ (0 ∷ 1 ∷ [], num (pos 5) (pos 0) (pos 3) (pos 3))
          ∷ (1 ∷ 0 ∷ [], num (negsuc 2) (pos 0) (negsuc 1) (negsuc 1))
          ∷ (1 ∷ 1 ∷ [], num (pos 5) (pos 0) (pos 3) (pos 3))
          ∷ [];
    }
two_outcomes = refl

-- an exchange with a test acts on the words that have the label at the place
pub test_passed : operator_on (0 ∷ 1 ∷ []) (Tested 2 Plus 1 1) ≡ Some (Exchange Plus)
test_passed = refl

pub test_failed : operator_on (0 ∷ 1 ∷ []) (Tested 2 Plus 0 1) ≡ None
test_failed = refl

-- a braid and its inverse
pub braided_back : rows_from fib (1 ∷ 1 ∷ 1 ∷ 1 ∷ []) (stands_for fib (1 ∷ 1 ∷ 1 ∷ 1 ∷ []) (λ t. t) ((x, ring5.one) ∷ [])) (Braid 2 Plus ∷ Braid 2 Minus ∷ Measure 1 ∷ [])
    ≡ (0 ∷ [], num (pos 2) (pos 0) (pos 1) (pos 1)) ∷ []
braided_back = refl

-- the balanced tree, by path amplitudes
pub balanced_middle : rows_from fib (leaves x) (stands_for fib (leaves x) (λ t. t) ((x, ring5.one) ∷ [])) (Measure 2 ∷ [])
    ≡ (0 ∷ [], num (pos 5) (pos 0) (pos 3) (pos 3)) ∷ (1 ∷ [], num (negsuc 2) (pos 0) (negsuc 1) (negsuc 1)) ∷ []
balanced_middle = refl

-- a left-combed tree stands for its own vector, at which it starts
pub own_path_is_one : stands_for fib (leaves lx) (λ t. t) ((lx, ring5.one) ∷ []) (own_path lx) ≡ ring5.one
own_path_is_one = refl

pub starts_at_own_path : start_vector fib lx (own_path lx) ≡ ring5.one
starts_at_own_path = refl

pub starts_nowhere_else : start_vector fib lx (0 ∷ 1 ∷ 1 ∷ 1 ∷ 0 ∷ []) ≡ ring5.zero
starts_nowhere_else = refl

pub inner_pair : inner_outcomes_of fib lx (Measure 2 ∷ []) ≡ outcomes_of fib lx (Measure 2 ∷ [])
inner_pair = refl

-- any other tree is spread over paths: (t (t t):1):t over two, by H(t,t,t,t;1,1) and H(t,t,t,t;1,t)
pub spread_at_unit : start_vector fib spread (0 ∷ 1 ∷ 0 ∷ 1 ∷ []) ≡ inverse_golden
spread_at_unit = refl

pub spread_at_t : start_vector fib spread (0 ∷ 1 ∷ 1 ∷ 1 ∷ []) ≡ inverse_golden
spread_at_t = refl

-- and the charge of its pair is the unit
pub spread_pair : outcomes_of fib spread (Measure 2 ∷ []) ≡ record { total = inverse_golden; rows = (0 ∷ [], inverse_golden) ∷ [] }
spread_pair = refl

-- strands that differ: after the braid they stand as t t 1, and the first two have the charge 1
pub mixed_strands : rows_from fib (leaves mixed) (own_vector ring5 mixed) (Braid 2 Plus ∷ Measure 1 ∷ []) ≡ (0 ∷ [], num (negsuc 0) (pos 0) (negsuc 0) (negsuc 0)) ∷ []
mixed_strands = refl

-- S(1,2,0) is conj(R(2,1,0)) w(1,2,0) v(2,1,0)
pub s_by_hand : s_of ring5 numbered 1 2 0 ≡ whole 5423
s_by_hand = refl

-- H(1,2,0,1;2,0) is conj(F(1,2,0,1;0,2)) w(2,0,2) w(1,2,1) v(1,2,0) v(0,0,1)
pub h_by_hand : h_of ring5 numbered 1 2 0 1 2 0 ≡ whole 46
h_by_hand = refl

-- H(1,2,0,1;2,0) at a node from the label 1 to 1, with 0 between
pub node_by_hand : path_amplitude (symbols_of ring5 held5 numbered) (Joined (Strand 2) (Strand 0) 2) (slice_index (1 ∷ 0 ∷ 1 ∷ [])) 0 ≡ whole 46
node_by_hand = refl

-- w(0,1,2) w(2,0,0) along a path, and without the first factor
abbrev weighted : Symbols Whole5
weighted = symbols_of ring5 held5 (record numbered { set_w = v_listed ((12, whole 3) ∷ (200, whole 5) ∷ []) })

pub first_factor : path_weight weighted (1 ∷ 0 ∷ []) (0 ∷ 2 ∷ 0 ∷ []) ≡ whole 15
first_factor = refl

pub no_first_factor : inner_path_weight weighted (1 ∷ 0 ∷ []) (0 ∷ 2 ∷ 0 ∷ []) ≡ whole 5
no_first_factor = refl
