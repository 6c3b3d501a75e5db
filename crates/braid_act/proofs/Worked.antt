-- Worked values: exchanges on symbols with numbers of their own at some indices and one elsewhere, and on the Fibonacci
-- category. The expected values were worked out by hand from the listed numbers.
use Rattle.std.specs.Prelude.{◌≡◌, true, false, [], ◌∷◌, nat_abs, nat_lt, pos, refl}
use Rattle.ring_laws.specs.Ring.{Ring}
use Rattle.symbol_table.proofs.Fib.{Whole5, conjugate5, fib, held5, num, numbered, plus5, ring5, times5, whole}
use Rattle.symbol_table.specs.Symbols.{Symbols, symbols_of}
use Rattle.tree_shapes.specs.Outlines.{Tip, Branch}
use Rattle.program_text.specs.declared.plan.Sign.TheVariants.{Plus, Minus}
use Rattle.comb_laws.specs.Operators.{braided}
use Rattle.recouple.specs.States.{State, comb}
use Rattle.braid_act.specs.Exchanges.{exchanged, exchange_fits}

abbrev some : Symbols Whole5
some = symbols_of ring5 held5 numbered

-- the strands 2 and 1 are a pair, whose label is 0 or 1
abbrev two_keys : State Whole5
two_keys = record {
  strands = 2 ∷ 1 ∷ 1 ∷ [];
  shape = Branch (Branch Tip Tip) Tip;
  amps = ((0 ∷ 2 ∷ []), whole 3) ∷ ((1 ∷ 1 ∷ []), num (pos 5) (pos 1) (pos 0) (pos 0)) ∷ [];
}

-- R(2,1,0) is 11, and R(2,1,1) is 1
positive : exchanged some Plus 1 two_keys ≡ record {
  strands = 1 ∷ 2 ∷ 1 ∷ [];
  shape = Branch (Branch Tip Tip) Tip;
  amps = ((0 ∷ 2 ∷ []), whole 33) ∷ ((1 ∷ 1 ∷ []), num (pos 5) (pos 1) (pos 0) (pos 0)) ∷ [];
}
positive = refl

-- S(2,1,0) is conj(R(1,2,0)) w(2,1,0) v(1,2,0), that is 13 times 19 times 23
negative : exchanged some Minus 1 two_keys ≡ record {
  strands = 1 ∷ 2 ∷ 1 ∷ [];
  shape = Branch (Branch Tip Tip) Tip;
  amps = ((0 ∷ 2 ∷ []), whole 17043) ∷ ((1 ∷ 1 ∷ []), num (pos 5) (pos 1) (pos 0) (pos 0)) ∷ [];
}
negative = refl

-- a ring whose products have to stay below 50: 33 and 5 fit, and 17043 doesn't
abbrev tight : Ring Whole5
tight = record {
  member = λ x. true;
  zero = ring5.zero;
  one = ring5.one;
  sum = plus5;
  product = times5;
  negative = ring5.negative;
  conjugate = conjugate5;
  sum_fits = λ x y. true;
  product_fits = λ x y. nat_lt (nat_abs (Whole5.c0 (times5 x y))) 50;
  conjugate_fits = λ x. true;
}

fits : ((exchange_fits (symbols_of tight held5 numbered) Plus 1 two_keys ≡ true) × (exchange_fits (symbols_of tight held5 numbered) Minus 1 two_keys ≡ false))
fits = (refl, refl)

-- an exchange of the right pair of three Fibonacci strands stands for the comb braid
abbrev fib_state : State Whole5
fib_state = record { strands = 1 ∷ 1 ∷ 1 ∷ []; shape = Branch Tip (Branch Tip Tip); amps = ((1 ∷ 0 ∷ []), whole 1) ∷ ((1 ∷ 1 ∷ []), whole 2) ∷ [] }

-- R(t,t,1) is z^3 and R(t,t,t) is 1 + z + z^2 + z^3, that is -z^4
exchanged_fib : State.amps (exchanged fib Plus 2 fib_state) ≡ ((1 ∷ 0 ∷ []), num (pos 0) (pos 0) (pos 0) (pos 1)) ∷ ((1 ∷ 1 ∷ []), num (pos 2) (pos 2) (pos 2) (pos 2)) ∷ []
exchanged_fib = refl

-- H(t,t,t,t;1,x) is 1/phi for both labels x, H(t,t,t,t;t,1) is 1 and H(t,t,t,t;t,t) is -1/phi
stands_for : ((comb fib (exchanged fib Plus 2 fib_state) (0 ∷ 1 ∷ 0 ∷ 1 ∷ []) ≡ num (pos 1) (pos 1) (pos 2) (pos 1)) × (comb fib (exchanged fib Minus 2 fib_state) (0 ∷ 1 ∷ 1 ∷ 1 ∷ []) ≡ num (pos 2) (pos 1) (pos 2) (pos 1)))
stands_for = (refl, refl)

braids : ((braided fib (1 ∷ 1 ∷ 1 ∷ []) Plus 2 (comb fib fib_state) (0 ∷ 1 ∷ 0 ∷ 1 ∷ []) ≡ num (pos 1) (pos 1) (pos 2) (pos 1)) × (braided fib (1 ∷ 1 ∷ 1 ∷ []) Minus 2 (comb fib fib_state) (0 ∷ 1 ∷ 1 ∷ 1 ∷ []) ≡ num (pos 2) (pos 1) (pos 2) (pos 1)))
braids = (refl, refl)
