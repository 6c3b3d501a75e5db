-- Worked values of the stated evaluation.
use Rattle.std.specs.Prelude.{◌≡◌, [], ◌∷◌, pos, negsuc, Ok, refl}
use Rattle.program_text.specs.declared.plan.Command.TheVariants.{Braid, Raise, Measure, BraidWhen}
use Rattle.program_text.specs.declared.plan.Sign.TheVariants.{Plus}
use Rattle.comb_laws.specs.Amplitudes.{own_vector}
use Rattle.comb_run.specs.Evaluated.{amplitudes, evaluation_of}
use Rattle.symbol_table.proofs.Fib.{num, fib}
use Rattle.comb_laws.proofs.Fib.{lx, short}

-- the stated evaluation has the same total and rows, where all items fit
pub evaluated_pair : evaluation_of fib short (Measure 2 ∷ [])
    ≡ Ok (record {
      total = num (negsuc 0) (pos 0) (negsuc 0) (negsuc 0);
      rows = (0 ∷ [], num (negsuc 2) (pos 0) (negsuc 1) (negsuc 1)) ∷ (1 ∷ [], num (pos 2) (pos 0) (pos 1) (pos 1)) ∷ [];
    })
evaluated_pair = refl

-- a second measurement of the same pair finds the same charge
measured_twice : evaluation_of fib short (Measure 2 ∷ Measure 2 ∷ [])
    ≡ Ok (record {
      total = num (negsuc 0) (pos 0) (negsuc 0) (negsuc 0);
      rows = (0 ∷ 0 ∷ [], num (negsuc 2) (pos 0) (negsuc 1) (negsuc 1)) ∷ (1 ∷ 1 ∷ [], num (pos 2) (pos 0) (pos 1) (pos 1)) ∷ [];
    })
measured_twice = refl

-- two measurements of different pairs, in the order of the text
two_measured : evaluation_of fib short (Measure 2 ∷ Measure 1 ∷ [])
    ≡ Ok (record {
      total = num (negsuc 0) (pos 0) (negsuc 0) (negsuc 0);
      rows =
          (0 ∷ 0 ∷ [], num (negsuc 7) (pos 0) (negsuc 4) (negsuc 4))
          ∷ (0 ∷ 1 ∷ [], num (pos 5) (pos 0) (pos 3) (pos 3))
          ∷ (1 ∷ 0 ∷ [], num (negsuc 2) (pos 0) (negsuc 1) (negsuc 1))
          ∷ (1 ∷ 1 ∷ [], num (pos 5) (pos 0) (pos 3) (pos 3))
          ∷ [];
    })
two_measured = refl

-- the first pair has the charge 0: a braid that asks for it is made, and one that asks for the other isn't
test_passed : evaluation_of fib lx (Measure 1 ∷ BraidWhen 2 Plus 0 0 ∷ Measure 1 ∷ [])
    ≡ Ok (record {
      total = num (pos 2) (pos 0) (pos 1) (pos 1);
      rows = (0 ∷ 0 ∷ [], num (pos 5) (pos 0) (pos 3) (pos 3)) ∷ (0 ∷ 1 ∷ [], num (negsuc 2) (pos 0) (negsuc 1) (negsuc 1)) ∷ [];
    })
test_passed = refl

test_failed : evaluation_of fib lx (Measure 1 ∷ BraidWhen 2 Plus 0 1 ∷ Measure 1 ∷ [])
    ≡ Ok (record { total = num (pos 2) (pos 0) (pos 1) (pos 1); rows = (0 ∷ 0 ∷ [], num (pos 2) (pos 0) (pos 1) (pos 1)) ∷ [] })
test_failed = refl

-- a raise is nothing on combs, and a braid keeps the total
raised_and_braided : evaluation_of fib short (Raise 1 ∷ Braid 2 Plus ∷ [])
    ≡ Ok (record { total = num (negsuc 0) (pos 0) (negsuc 0) (negsuc 0); rows = ([], num (negsuc 0) (pos 0) (negsuc 0) (negsuc 0)) ∷ [] })
raised_and_braided = refl

-- three paths of three strands, of which a tree has its own
all_amplitudes : amplitudes fib (1 ∷ 1 ∷ 1 ∷ []) (λ x. fib.ring.one) ≡ 3
all_amplitudes = refl

own_amplitude : amplitudes fib (1 ∷ 1 ∷ 1 ∷ []) (own_vector fib.ring short) ≡ 1
own_amplitude = refl
